pub mod Memberships
mod Entries
mod Reserved
