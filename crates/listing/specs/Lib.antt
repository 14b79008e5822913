-- What stands in a buffer once a listing is written into it, and what the outputs hold after an evening.
pub mod Page
pub mod Evening
