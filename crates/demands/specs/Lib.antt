pub mod Kernels
pub mod Demands
pub mod Worked
