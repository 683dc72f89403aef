pub mod Forms
pub mod Before
pub mod Holding
pub mod Showing
pub mod Found
pub mod Walking
pub mod Roles
pub mod Sayable
