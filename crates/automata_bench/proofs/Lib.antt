mod Chains
mod Numbered
