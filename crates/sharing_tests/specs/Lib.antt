pub mod OneMethod
pub mod Parts
