pub mod OneFolder
pub mod OneTree
pub mod OneCount
pub mod OneStatement
pub mod OneProgram
pub mod OneEnd
