pub mod Totals
pub mod Spending
pub mod Told
pub mod Inner
