pub mod Clk
