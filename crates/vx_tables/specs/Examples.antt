-- Entries, walks and look-ups, on which the definitions are computed. RISC-V Privileged 1.12, section 4.4 (Sv39); that a page may
-- be away, and the order of the tables, are this project's own. The values are worked out by hand.
use Rattle.std.specs.Prelude.{◌≡◌, true, false, List, [], ◌∷◌, map, Some, None}
use Rattle.vx_base.specs.declared.machine.Want.TheVariants.{Fetch, Load, Store}
use Rattle.vx_tables.specs.Caches.{Fill, look_up}
use Rattle.vx_tables.specs.Entries.{pointer, page_entry, leaf_answer, leaf_written}
use Rattle.vx_tables.specs.Residency.{Place, Residency, after_walk, page_map}
use Rattle.vx_tables.specs.Residency.Place.{Away, Present}
use Rattle.vx_image.specs.Pages.{is_canonical}
use Rattle.vx_tables.specs.Walks.{entry_word, refused, table_walk}
use Rattle.vx_tables.specs.declared.look.Look.TheVariants as look
use Rattle.vx_tables.specs.declared.walked.Walked.TheVariants as walked

-- page 0x10, of code, in frame 5; and page 0x40403, of variables, which is the fourth of the third region of 2 MiB in the second
-- region of 1 GiB, at a place. With their root in frame 8, the tables of the second level are in frames 9 and 10, and the leaf
-- tables in frames 11 and 12
abbrev pub two_pages : Place → Residency
two_pages place =
    record { entry = record { page = 0x10; perm = record { bits = 5 } }; place = Present 5 false false }
    ∷ record { entry = record { page = 0x40403; perm = record { bits = 6 } }; place = place }
    ∷ []

-- page 7, of variables, in frame 3, and page 11, of code, in frame 4: of a cache of four entries they take the same one
abbrev pub variables_filled : Fill
variables_filled = record { page = 7; frame = 3; perm = record { bits = 6 }; dirty = false }

abbrev pub code_filled : Fill
code_filled = record { page = 11; frame = 4; perm = record { bits = 5 }; dirty = false }

pub record ExamplesHold : Type 0 where
  -- entries of a table in frame 1, of a page that is away, of code in frame 3 with A set, and of variables in frame 2 with A and D
  pub entries : pointer 1 ∷ page_entry 5 Away ∷ page_entry 5 (Present 3 true false) ∷ page_entry 6 (Present 2 true true) ∷ [] ≡ 0x401 ∷ 0x100 ∷ 0xc5b ∷ 0x8d7 ∷ []
  -- to a leaf that may be read and written, without A and D: a load writes A, a store A and D, and a fetch nothing
  pub are_written : map (λ want. leaf_written want 0x817) (Load ∷ Store ∷ Fetch ∷ []) ≡ Some 0x857 ∷ Some 0x8d7 ∷ None ∷ []
  -- a load writes nothing where A is set, to a page that is away, and to a leaf without U
  pub are_left : map (leaf_written Load) (0x857 ∷ 0x100 ∷ 0x807 ∷ []) ≡ None ∷ None ∷ None ∷ []
  -- a leaf that may be read and executed grants no store, and none is written
  pub code_is_kept : leaf_written Store 0xc5b ≡ None
  pub code_is_granted : map (λ want. leaf_answer want 0xc5b) (Fetch ∷ Load ∷ Store ∷ []) ≡ walked.Leaf 3 (record { bits = 5 }) false ∷ walked.Leaf 3 (record { bits = 5 }) false ∷ walked.Denied ∷ []
  -- a page that is away is so for a store too; a leaf without U, and one without V, are denied
  pub away_or_denied : map (leaf_answer Store) (0x100 ∷ 0x8c7 ∷ 0x8d6 ∷ []) ≡ walked.Away ∷ walked.Denied ∷ walked.Denied ∷ []
  -- the last address below 2 ^ 38 and the first of the last 2 ^ 38 are canonical; what is between isn't
  pub canonical : map is_canonical (0x3fffffffff ∷ 0x4000000000 ∷ 0xffffffbfffffffff ∷ 0xffffffc000000000 ∷ []) ≡ true ∷ false ∷ false ∷ true ∷ []
  -- 0x40403008 is byte 8 of page 3 of region 2 of region 1
  pub words : map (entry_word 8 0x40403008) (2 ∷ 1 ∷ 0 ∷ []) ≡ 4097 ∷ 4098 ∷ 4099 ∷ []
  -- a store there reads an entry of each level, finds the page, and sets A and D
  pub is_stored : table_walk (two_pages (Present 6 false false)) 8 0x40403008 Store
      ≡ record {
        reads = record { word = 4097; value = 0x2801 } ∷ record { word = 5122; value = 0x3001 } ∷ record { word = 6147; value = 0x1817 } ∷ [];
        answer = walked.Leaf 6 (record { bits = 6 }) true;
        write = Some (record { word = 6147; value = 0x18d7 });
      }
  -- the page after a load and after a store
  pub is_touched : map (after_walk (two_pages (Present 6 false false)) 0x40403008) (Load ∷ Store ∷ []) ≡ two_pages (Present 6 true false) ∷ two_pages (Present 6 true true) ∷ []
  -- in a region without pages the walk ends at the root; outside the canonical addresses nothing is read
  pub no_region : table_walk (two_pages Away) 8 0x80000000 Load ≡ record { reads = record { word = 4098; value = 0 } ∷ []; answer = walked.Denied; write = None }
  pub no_address : table_walk (two_pages Away) 8 0x4000000000 Load ≡ refused
  -- what is found: code, which may be fetched and not stored to, a page that is away, and one that isn't mapped
  pub found : map (λ want. page_map (two_pages Away) 0x10ffc want) (Fetch ∷ Store ∷ []) ≡ walked.Leaf 5 (record { bits = 5 }) false ∷ walked.Denied ∷ []
  pub not_found : map (λ address. page_map (two_pages Away) address Load) (0x40403008 ∷ 0x11000 ∷ []) ≡ walked.Away ∷ walked.Denied ∷ []
  -- of a filled page: a load hits, a store misses since D isn't set, and a fetch is denied; a later fill of its place takes it
  pub looks : map (look_up 4 (variables_filled ∷ []) 7) (Load ∷ Store ∷ Fetch ∷ []) ≡ look.Hit 3 ∷ look.Miss ∷ look.Denied ∷ []
  pub replaced : map (λ page. look_up 4 (code_filled ∷ variables_filled ∷ []) page Load) (7 ∷ 11 ∷ []) ≡ look.Miss ∷ look.Hit 4 ∷ []
