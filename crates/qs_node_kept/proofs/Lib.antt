mod Indexing
mod Keys
mod Lending
mod Newest
mod Undoing
