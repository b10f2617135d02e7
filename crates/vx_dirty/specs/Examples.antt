-- Small episodes and which pages have D at their ends, on which the definitions are computed. This project's own.
use Rattle.std.specs.Prelude.{◌≡◌, ℕ, Bool, true, false, List, [], ◌∷◌}
use Rattle.std.specs.Option.{option_map_or}
use Rattle.vx_flat.specs.Memory.{byte_at}
use Rattle.vx_tables.specs.Residency.Place.{Away}
use Rattle.vx_episode.specs.Episode.{EpisodeEnd, episode}
use Rattle.vx_episode.specs.Examples.{sequential, placed_page, code_page, data_page, zero_page, no_vectors, process, started}
use Rattle.vx_dirty.specs.Dirty.{is_dirty}

-- an episode of a program with 7 in a1 and the address of page 17 in a0, and page 18 away
abbrev pub dirty_behind : (number : ℕ) → List ℕ → Bool
dirty_behind number words =
    option_map_or (λ (e : EpisodeEnd). is_dirty number e.residency)
    (episode (started sequential (code_page ∷ data_page ∷ placed_page 18 6 Away ∷ []) 0) 1000 (process no_vectors 0x11000 7 0 (zero_page 17 ∷ zero_page 18 ∷ []) words)) false

abbrev pub byte_behind : (address : ℕ) → List ℕ → ℕ
byte_behind address words =
    option_map_or (λ (e : EpisodeEnd). byte_at e.process.state.memory address)
    (episode (started sequential (code_page ∷ data_page ∷ placed_page 18 6 Away ∷ []) 0) 1000 (process no_vectors 0x11000 7 0 (zero_page 17 ∷ zero_page 18 ∷ []) words)) 0

-- sd a1, 8(a0); ecall
abbrev pub stores_one : List ℕ
stores_one = 0x00b53423 ∷ 0x00000073 ∷ []

-- ld a2, 8(a0); ecall
abbrev pub loads_one : List ℕ
loads_one = 0x00853603 ∷ 0x00000073 ∷ []

pub record ExamplesHold : Type 0 where
  -- a store leaves its page with D, and another number there; not so the page of its code, one that is away, and one that isn't mapped
  pub stores : dirty_behind 17 stores_one ≡ true
  pub changes : byte_behind 0x11008 stores_one ≡ 7
  pub code : dirty_behind 16 stores_one ≡ false
  pub away : dirty_behind 18 stores_one ≡ false
  pub unmapped : dirty_behind 19 stores_one ≡ false
  -- a load leaves its page without D
  pub loads : dirty_behind 17 loads_one ≡ false
