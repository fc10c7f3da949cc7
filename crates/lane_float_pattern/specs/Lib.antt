pub mod Integral
