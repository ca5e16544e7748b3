pub mod Places
pub mod Claims
pub mod Marked
pub mod Filled
pub mod Firsts
pub mod Laws
