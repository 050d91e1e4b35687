pub mod Decimals
pub mod Grammar
pub mod Laws
pub mod Worked
