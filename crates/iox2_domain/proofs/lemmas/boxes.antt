-- What the boxes of ports come to.
pub mod KeptBoxes
