pub mod TestClasses
