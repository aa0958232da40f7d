pub mod Opening
pub mod Origins
pub mod Rising
