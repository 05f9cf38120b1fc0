pub mod Parts
pub mod BytesMore
