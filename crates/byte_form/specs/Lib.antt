pub mod Places
pub mod Forms
pub mod States
pub mod Reading
