pub mod Marks
pub mod Files
pub mod Props
pub mod Says
pub mod Copies
pub mod Ready
pub mod Rules
pub mod Printed
