pub mod Members
pub mod Places
pub mod Laws
pub mod Pairs
pub mod Behind
