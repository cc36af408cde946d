mod Equalities
mod AllExpanded
mod Unaccepted
