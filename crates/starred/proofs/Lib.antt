pub mod Starred  -- every row holds, by evaluation
mod Wrong
