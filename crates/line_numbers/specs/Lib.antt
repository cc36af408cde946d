pub mod LineTables
