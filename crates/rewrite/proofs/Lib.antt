pub mod Firsts
pub mod Held
pub mod Proved
pub mod Telling
