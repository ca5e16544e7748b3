pub mod Forges
