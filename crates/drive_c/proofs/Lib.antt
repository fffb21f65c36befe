mod Products
mod Counting
