-- The ranges of the options that are no intervals. This project's own.
use Rattle.std.specs.Prelude.{ℕ, Bool, ◌==◌, ◌||◌}

abbrev pub is_register_length : ℕ → Bool
is_register_length n = n == 128 || n == 256 || n == 512 || n == 1024 || n == 2048

abbrev pub is_lane_count : ℕ → Bool
is_lane_count n = n == 1 || n == 2 || n == 4 || n == 8

abbrev pub is_bank_count : ℕ → Bool
is_bank_count n = n == 1 || n == 2 || n == 4 || n == 8 || n == 16
