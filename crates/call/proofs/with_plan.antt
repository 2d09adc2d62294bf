-- A call that is lent a plan: its definition and the laws on its ways out. It has no functions.
pub mod Ending
