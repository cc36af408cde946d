pub mod AllEnded
pub mod Attended
pub mod Ends
pub mod Seated
pub mod Served
