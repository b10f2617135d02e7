-- What a cache of translations keeps: for each place the last fill there. This project's own.
use Rattle.std.specs.Prelude.{◌≡◌, ℕ, ◌%◌, ◌<◌, List, length, slice_index_or, Option, Some, None, option_map}
use Rattle.vx_tables.specs.Caches.{Fill, last_fill}
use Rattle.vx_tlb.specs.declared.tlb.Kept.{Kept}

-- the fill that an entry keeps
abbrev pub fill_of : Kept → Fill
fill_of k = record { page = k.page; frame = k.frame; perm = k.perm; dirty = k.dirty }

-- the fills that are kept, by place
abbrev pub kept_at : List (Option Kept) → (place : ℕ) → Option Fill
kept_at places place = option_map fill_of (slice_index_or places place None)

-- a cache stands for these fills since it was emptied, the newest first: each place keeps the last one there
abbrev pub StandsFor : List (Option Kept) → List Fill → Type 0
StandsFor places fills = (place : ℕ) → place < length places → kept_at places place ≡ last_fill (length places) place fills
