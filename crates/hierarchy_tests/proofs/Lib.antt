pub mod TestMembers
