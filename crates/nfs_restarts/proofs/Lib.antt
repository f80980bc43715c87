mod Tags
mod Made
mod Across
