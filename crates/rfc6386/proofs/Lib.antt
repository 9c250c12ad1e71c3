-- What is proved of the definitions: laws, the numbers worked by hand, when sixteen equal vectors are one and that the functions keep it, that equal
-- strides of U and V read as one did, where the two full-pixel modes agree, what a prediction may see, what it makes of a mirrored picture, how
-- many samples are clipped, and that contracts leave no choice
pub mod Laws
pub mod Worked
pub mod Merging
pub mod Carried
pub mod Strides
pub mod Clipping
pub mod Counts
pub mod Modes
pub mod Seeing
pub mod Mirroring
pub mod Promises
