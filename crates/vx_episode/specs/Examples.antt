-- Small programs and when what they do comes, on which the definitions are computed. This project's own; the cycles were worked out
-- by hand from the equations, as docs/TIMES.md shows.
use Rattle.std.specs.Prelude.{◌≡◌, ℕ, ◌*◌, ◌^◌, ◌-◌, ◌==◌, Bool, true, false, List, [], ◌∷◌, ◌++◌, map, flat_map, filter, replicate, reverse, Option, Some, None, option_map}
use Rattle.std.specs.Option.{option_map_or}
use Rattle.vx_base.specs.Numbers.{little_endian}
use Rattle.vx_cells.specs.declared.access.Access as cells
use Rattle.vx_cells.specs.declared.access.Port.{Port}
use Rattle.vx_cells.specs.declared.access.Port.TheVariants as port
use Rattle.vx_base.specs.declared.machine.Want.TheVariants.{Fetch, Load, Store}
use Rattle.vx_flat.specs.Process.{Process}
use Rattle.vx_flat.specs.State.{Flat}
use Rattle.vx_flat.specs.declared.end.End.TheVariants as end
use Rattle.vx_image.specs.Pages.{MappedPage, Memory}
use Rattle.vx_tables.specs.Residency.{Residency, PlacedPage, Place}
use Rattle.vx_tables.specs.Residency.Place.{Away, Present}
use Rattle.vx_vstate.specs.State.{VectorState}
use Rattle.vx_episode.specs.Cycles.{cycles_of}
use Rattle.vx_episode.specs.Episode.{EpisodeEnd, episode, instructions}
use Rattle.vx_episode.specs.History.{History, Entry, BeatTimes, BatchTimes, AccessTimes}
use Rattle.vx_episode.specs.Organisation.{Organisation, Start}
use Rattle.vx_episode.specs.Show.{is_pending}
use Rattle.vx_episode.specs.declared.ended.Ended.{Ended}
use Rattle.vx_episode.specs.declared.ended.Ended.TheVariants as ended

-- ---- machines, pages and states

-- one instruction in flight and batches of one element, on one lane and eight banks with a bank time of 4
abbrev pub sequential : Organisation
sequential = record { lanes = 1; banks = 8; bank_time = 4; window = 1; batch_limit = 1 }

-- so many instructions in flight, and batches as long as they may be
abbrev pub overlapped : (lanes banks window : ℕ) → Organisation
overlapped lanes banks window = record { lanes = lanes; banks = banks; bank_time = 4; window = window; batch_limit = 2048 }

-- page 16 may be read and executed, and pages 17 and 18 may be read and written
abbrev pub placed_page : (number bits : ℕ) → Place → PlacedPage
placed_page number bits place = record { entry = record { page = number; perm = record { bits = bits } }; place = place }

abbrev pub code_page : PlacedPage
code_page = placed_page 16 5 (Present 5 false false)

abbrev pub data_page : PlacedPage
data_page = placed_page 17 6 (Present 6 false false)

-- the bytes of a program: words of four bytes
abbrev pub program : List ℕ → MappedPage
program words = record { number = 16; permissions = 5; bytes = flat_map (little_endian 4) words }

-- a page of 0, of whose bytes the first 128 are there
abbrev pub zero_page : (number : ℕ) → MappedPage
zero_page number = record { number = number; permissions = 6; bytes = replicate 128 0 }

abbrev pub no_vectors : VectorState
no_vectors = record { vlen = 128; words = []; vl = 0; vtype = 2 ^ 63; vstart = 0; vxsat = false; vxrm = 0 }

-- e64 and m4 with vl 8, at registers of 128 bits
abbrev pub eight_elements : (vstart : ℕ) → VectorState
eight_elements vstart = record { vlen = 128; words = replicate 64 0; vl = 8; vtype = 0x1a; vstart = vstart; vxsat = false; vxrm = 0 }

-- a process at the begin of a program on page 16, with other pages, x10, x11 and x12
abbrev pub process : VectorState → (a0 a1 a2 : ℕ) → Memory → List ℕ → Process
process v a0 a1 a2 memory words = record {
  state = record {
    pc = 0x10000;
    x = replicate 10 0 ++ (a0 ∷ a1 ∷ a2 ∷ replicate 19 0);
    v = v;
    memory = program words ∷ memory;
    output = [];
  };
  count = 0;
  over = None;
}

abbrev pub started : Organisation → Residency → (cycle : ℕ) → Start
started machine residency cycle = record { machine = machine; cycle = cycle; residency = residency; root = 0; has_vectors = true }

-- ---- what is looked at

-- the last cycle of an episode, that at which the system takes over, how many instructions completed, and how often it committed
abbrev pub figures : Option EpisodeEnd → List ℕ
figures e = option_map_or (λ (e : EpisodeEnd). e.last ∷ e.clock ∷ e.completed ∷ e.commits ∷ []) e []

abbrev pub ended_of : Option EpisodeEnd → Option Ended
ended_of e = option_map (λ (e : EpisodeEnd). e.ended) e

abbrev pub residency_of : Option EpisodeEnd → Option Residency
residency_of e = option_map (λ (e : EpisodeEnd). e.residency) e

abbrev pub log_of : Option EpisodeEnd → Option (List cells.Access)
log_of e = option_map (λ (e : EpisodeEnd). e.log) e

abbrev pub vector_state_of : Option EpisodeEnd → Option VectorState
vector_state_of e = option_map (λ (e : EpisodeEnd). e.process.state.v) e

-- of each instruction in turn: the cycles of its issue and its retire, where they come, those of its beats, and those at which its
-- accesses are served
abbrev pub issue_cycles : History → List ℕ
issue_cycles history = flat_map (λ (e : Entry). cycles_of e.issued) (reverse history)

abbrev pub retire_cycles : History → List ℕ
retire_cycles history = flat_map (λ (e : Entry). cycles_of e.retired) (reverse history)

abbrev pub beat_cycles : History → List (List ℕ)
beat_cycles history = map (λ (e : Entry). flat_map (λ (b : BeatTimes). cycles_of b.cycle) (reverse e.beats)) (reverse history)

abbrev pub start_cycles : History → List (List ℕ)
start_cycles history = map (λ (e : Entry). flat_map (λ (b : BatchTimes). cycles_of b.started) (reverse e.batches)) (reverse history)

abbrev pub serve_cycles : History → List (List ℕ)
serve_cycles history = map (λ (e : Entry). flat_map (λ (b : BatchTimes). map (λ (a : AccessTimes). a.served) (reverse b.accesses)) (reverse e.batches)) (reverse history)

-- ---- the programs

-- it writes "hi" and a newline, and exits: here from its first instruction on, and from that behind the service
abbrev pub writes_hi : List ℕ
writes_hi = 0x00100513 ∷ 0x000105b7 ∷ 0x02458593 ∷ 0x00300613 ∷ 0x04000893 ∷ 0x00000073 ∷ []

abbrev pub exits : List ℕ
exits = 0x00000513 ∷ 0x05d00893 ∷ 0x00000073 ∷ []

-- vmul.vv v8, v16, v24; vadd.vv v12, v8, v24; vredsum.vs v4, v12, v16; vdivu.vv v20, v24, v16; ecall
abbrev pub calculates : List ℕ
calculates = 0x970c2457 ∷ 0x028c0657 ∷ 0x02c82257 ∷ 0x83882a57 ∷ 0x00000073 ∷ []

-- vle64.v v8, (a0); vlse64.v v12, (a0), a1; vlse64.v v12, (a0), a2; vle32.v v16, (a0); ecall
abbrev pub loads : List ℕ
loads = 0x02057407 ∷ 0x0ab57607 ∷ 0x0ac57607 ∷ 0x02056807 ∷ 0x00000073 ∷ []

-- ld a1, 0(a0); sd a1, 8(a0); sd a1, 0(a0); ecall
abbrev pub stores : List ℕ
stores = 0x00053583 ∷ 0x00b53423 ∷ 0x00b53023 ∷ 0x00000073 ∷ []

-- vse64.v v8, (a0); ecall
abbrev pub stores_eight : List ℕ
stores_eight = 0x02057427 ∷ 0x00000073 ∷ []

-- vle64ff.v v8, (a0); vadd.vv v12, v8, v8; ecall
abbrev pub loads_first : List ℕ
loads_first = 0x03057407 ∷ 0x02840657 ∷ 0x00000073 ∷ []

-- ld a1, 0(a0); ld a2, 0(a0); ecall
abbrev pub loads_twice : List ℕ
loads_twice = 0x00053583 ∷ 0x00053603 ∷ 0x00000073 ∷ []

-- sd a1, 0(a2); vsse64.v v8, (a0), a1; ecall
abbrev pub stores_down : List ℕ
stores_down = 0x00b63023 ∷ 0x0ab57427 ∷ 0x00000073 ∷ []

-- jal zero, 0x8000; ecall; and, at that address, jal zero, -0x7ffc, which is back behind the first
abbrev pub jumps : List ℕ
jumps = 0x0000806f ∷ 0x00000073 ∷ []

abbrev pub jumps_back : List ℕ
jumps_back = 0x804f806f ∷ []

-- ld a2, 0(a0); ld a3, 0(a1); ld a4, 0(a0); ecall
abbrev pub loads_thrice : List ℕ
loads_thrice = 0x00053603 ∷ 0x0005b683 ∷ 0x00053703 ∷ 0x00000073 ∷ []

-- vadd.vv v12, v8, v8; vluxei64.v v16, (a0), v12; ecall
abbrev pub gathers : List ℕ
gathers = 0x02840657 ∷ 0x06c57807 ∷ 0x00000073 ∷ []

-- ld a1, 0(a0); five times addi a2, a2, 0. And the same with add a2, a1, a1 behind the load
abbrev pub goes_on : List ℕ
goes_on = 0x00053583 ∷ replicate 5 0x00060613

abbrev pub waits_on : List ℕ
waits_on = 0x00053583 ∷ 0x00b58633 ∷ replicate 4 0x00060613

-- csrrs t0, vlenb, zero; ecall. And vsetvli t0, a1, e64, m4; ecall
abbrev pub reads_vlenb : List ℕ
reads_vlenb = 0xc22022f3 ∷ 0x00000073 ∷ []

abbrev pub configures : List ℕ
configures = 0x01a5f2d7 ∷ 0x00000073 ∷ []

-- div a1, a0, a0; addi a2, a1, 0; mul a3, a0, a0; ecall
abbrev pub divides : List ℕ
divides = 0x02a545b3 ∷ 0x00058613 ∷ 0x02a506b3 ∷ 0x00000073 ∷ []

-- vle64.v v8, (a0); vadd.vv v12, v8, v8; ecall
abbrev pub chains : List ℕ
chains = 0x02057407 ∷ 0x02840657 ∷ 0x00000073 ∷ []

-- vle64.v v8, (a0), v0.t; ecall
abbrev pub loads_masked : List ℕ
loads_masked = 0x00057407 ∷ 0x00000073 ∷ []

-- ld a1, 0(a2); vsuxei64.v v8, (a0), v12; ecall
abbrev pub scatters : List ℕ
scatters = 0x00063583 ∷ 0x06c57427 ∷ 0x00000073 ∷ []

-- jalr zero, 0(a0)
abbrev pub jumps_by : List ℕ
jumps_by = 0x00050067 ∷ []

-- vdivu.vv v20, v24, v16; jal zero, 0x7ffc
abbrev pub divides_and_jumps : List ℕ
divides_and_jumps = 0x83882a57 ∷ 0x7fd0706f ∷ []

-- vlse64.v v12, (a0), a1; ecall
abbrev pub loads_apart : List ℕ
loads_apart = 0x0ab57607 ∷ 0x00000073 ∷ []

-- vlseg4e64ff.v v8, (a0); vmv.x.s a2, v8; ecall
abbrev pub loads_fields : List ℕ
loads_fields = 0x63057407 ∷ 0x42802657 ∷ 0x00000073 ∷ []

-- vmor.mm v0, v1, v1; vle8.v v8, (a0), v0.t; ecall
abbrev pub loads_by_mask : List ℕ
loads_by_mask = 0x6a10a057 ∷ 0x00050407 ∷ 0x00000073 ∷ []

-- vmv2r.v v8, v4; vcpop.m a2, v4; vmv.s.x v12, a2; vredsum.vs v16, v20, v24; ecall
abbrev pub moves_and_counts : List ℕ
moves_and_counts = 0x9e40b457 ∷ 0x42482657 ∷ 0x42066657 ∷ 0x034c2857 ∷ 0x00000073 ∷ []

-- vluxei64.v v16, (a0), v12
abbrev pub gathers_alone : List ℕ
gathers_alone = 0x06c57807 ∷ []

-- ld a1, 0(a0); jal zero, 0x7ffc
abbrev pub loads_and_jumps : List ℕ
loads_and_jumps = 0x00053583 ∷ 0x7fd0706f ∷ []

-- mul a3, a0, a1; add a4, zero, a3; mul zero, a0, a1; addi a4, zero, 1; fence; beq zero, zero, 4; mul a5, a2, a1;
-- vsetvl t0, a2, a5; ecall
abbrev pub waits_for_operands : List ℕ
waits_for_operands =
    0x02b506b3 ∷ 0x00d00733 ∷ 0x02b50033 ∷ 0x00100713 ∷ 0x0000000f ∷ 0x00000263 ∷ 0x02b607b3 ∷ 0x80f672d7 ∷ 0x00000073 ∷ []

-- mul a3, a0, a1; ld a4, 0(a3); mul a3, a0, a1; sd a1, 8(a3); mul a3, a0, a1; vle64.v v8, (a3); mul a5, a2, a1;
-- vlse64.v v12, (a0), a5; ecall
abbrev pub waits_for_bases : List ℕ
waits_for_bases =
    0x02b506b3 ∷ 0x0006b703 ∷ 0x02b506b3 ∷ 0x00b6b423 ∷ 0x02b506b3 ∷ 0x0206f407 ∷ 0x02b607b3 ∷ 0x0af57607 ∷ 0x00000073 ∷ []

-- vdivu.vv v20, v24, v16; vdivu.vv v8, v24, v16; vle64.v v8, (a0); vadd.vv v12, v8, v8; ecall
abbrev pub loads_over : List ℕ
loads_over = 0x83882a57 ∷ 0x83882457 ∷ 0x02057407 ∷ 0x02840657 ∷ 0x00000073 ∷ []

-- sw a1, 4(a0); ecall
abbrev pub stores_half : List ℕ
stores_half = 0x00b52223 ∷ 0x00000073 ∷ []

-- ld a4, 0(a0); twice addi a2, a2, 0; jalr zero, 0(a0). And with ld a3, 0(a1) before it, and ten of addi
abbrev pub loads_and_goes : List ℕ
loads_and_goes = 0x00053703 ∷ 0x00060613 ∷ 0x00060613 ∷ 0x00050067 ∷ []

abbrev pub loads_twice_and_goes : List ℕ
loads_twice_and_goes = 0x0005b683 ∷ 0x00053703 ∷ replicate 10 0x00060613 ++ (0x00050067 ∷ [])

-- sd a1, 0(a2); vsuxei64.v v8, (a0), v12; ecall
abbrev pub scatters_behind : List ℕ
scatters_behind = 0x00b63023 ∷ 0x06c57427 ∷ 0x00000073 ∷ []

-- vlseg4e64.v v8, (a0); ecall
abbrev pub loads_four_fields : List ℕ
loads_four_fields = 0x62057407 ∷ 0x00000073 ∷ []

-- vlse64.v v12, (a0), a1; ld a3, 0(a2); ecall
abbrev pub loads_two_pages : List ℕ
loads_two_pages = 0x0ab57607 ∷ 0x00063683 ∷ 0x00000073 ∷ []

-- sd a1, 0(a0); ld a3, 0(a2); ld a4, 0(a0); sd a1, 8(a0); ecall
abbrev pub stores_again : List ℕ
stores_again = 0x00b53023 ∷ 0x00063683 ∷ 0x00053703 ∷ 0x00b53423 ∷ 0x00000073 ∷ []

-- ld a1, 0(a0); sd a1, 0(a0); ecall
abbrev pub loads_and_stores : List ℕ
loads_and_stores = 0x00053583 ∷ 0x00b53023 ∷ 0x00000073 ∷ []

-- lw a1, 4(a0); ecall
abbrev pub loads_half : List ℕ
loads_half = 0x00452583 ∷ 0x00000073 ∷ []

-- div a3, a0, a0; ld a2, 0(a0); ecall
abbrev pub divides_and_loads : List ℕ
divides_and_loads = 0x02a546b3 ∷ 0x00053603 ∷ 0x00000073 ∷ []

-- vdivu.vv v20, v24, v16; vle64.v v8, (a0); ecall
abbrev pub divides_and_chains : List ℕ
divides_and_chains = 0x83882a57 ∷ 0x02057407 ∷ 0x00000073 ∷ []

-- mul a3, a0, a1; csrrw zero, vxrm, a1; ecall
abbrev pub rounds : List ℕ
rounds = 0x02b506b3 ∷ 0x00a59073 ∷ 0x00000073 ∷ []

-- mul a3, a0, a1; vsetvli a3, a1, e64, m4; addi a4, a3, 0; mul a5, a0, a1; vsetvli t0, a5, e64, m4; ecall
abbrev pub configures_twice : List ℕ
configures_twice = 0x02b506b3 ∷ 0x01a5f6d7 ∷ 0x00068713 ∷ 0x02b507b3 ∷ 0x01a7f2d7 ∷ 0x00000073 ∷ []

-- mul a2, a0, a1; vluxei64.v v16, (a0), v12; vadd.vv v12, v4, v12; addi a3, a2, 0; ecall
abbrev pub shares_numbers : List ℕ
shares_numbers = 0x02b50633 ∷ 0x06c57807 ∷ 0x02460657 ∷ 0x00060693 ∷ 0x00000073 ∷ []

-- vid.v v8; vadd.vv v12, v8, v8; vslidedown.vi v16, v8, 1; vadd.vv v20, v16, v16; vcompress.vm v24, v8, v1; vadd.vv v28, v24, v24; ecall
abbrev pub permutes : List ℕ
permutes = 0x5208a457 ∷ 0x02840657 ∷ 0x3e80b857 ∷ 0x03080a57 ∷ 0x5e80ac57 ∷ 0x038c0e57 ∷ 0x00000073 ∷ []

-- vadd.vv v12, v8, v8; ecall
abbrev pub adds : List ℕ
adds = 0x02840657 ∷ 0x00000073 ∷ []

-- addi a2, a2, 0; mul a3, a0, a1; div a3, a0, a0; jal zero, 4; beq zero, zero, 4; ld a1, 0(a0); sd a1, 0(a0); fence; ebreak
abbrev pub needs_none : List ℕ
needs_none =
    0x00060613 ∷ 0x02b506b3 ∷ 0x02a546b3 ∷ 0x0040006f ∷ 0x00000263 ∷ 0x00053583 ∷ 0x00b53023 ∷ 0x0000000f ∷ 0x00100073 ∷ []

-- sb a1, 1(a0); ecall
abbrev pub stores_byte : List ℕ
stores_byte = 0x00b500a3 ∷ 0x00000073 ∷ []

-- jal zero, 0x4000; ecall; and, at that address, jal zero, -0x3ffc, which is back behind the first
abbrev pub jumps_near : List ℕ
jumps_near = 0x0000406f ∷ 0x00000073 ∷ []

abbrev pub jumps_back_near : List ℕ
jumps_back_near = 0x804fc06f ∷ []

-- mul a3, a0, a1; bne a0, a3, 4; mul a4, a0, a1; jalr zero, 16(a4); ecall
abbrev pub waits_to_jump : List ℕ
waits_to_jump = 0x02b506b3 ∷ 0x00d51263 ∷ 0x02b50733 ∷ 0x01070067 ∷ 0x00000073 ∷ []

-- vid.v v8; vmul.vv v12, v8, v8; ecall
abbrev pub squares : List ℕ
squares = 0x5208a457 ∷ 0x96842657 ∷ 0x00000073 ∷ []

-- sd a1, 0(a2); ld a3, 0(a0); vsse64.v v8, (a0), a1; ecall
abbrev pub loads_and_stores_down : List ℕ
loads_and_stores_down = 0x00b63023 ∷ 0x00053683 ∷ 0x0ab57427 ∷ 0x00000073 ∷ []

-- mul a2, a0, a1; vsetivli t0, 12, e64, m4; ecall
abbrev pub configures_by_number : List ℕ
configures_by_number = 0x02b50633 ∷ 0xc1a672d7 ∷ 0x00000073 ∷ []

-- twice addi a2, a2, 0; ecall
abbrev pub goes_twice : List ℕ
goes_twice = 0x00060613 ∷ 0x00060613 ∷ 0x00000073 ∷ []

-- ---- what they come to

-- the program that writes, with one instruction in flight, first from cycle 100 on, and behind the service from cycle 203 on: 52 and
-- 43 cycles, and with the 51 and 50 of the two services the 196 of the whole run
pub record HiHolds : Type 0 where
  pub writes : figures (episode (started sequential (code_page ∷ []) 100) 10100 (process no_vectors 0 0 0 [] writes_hi)) ≡ 132 ∷ 152 ∷ 5 ∷ 5 ∷ []
  pub leaves : figures (episode (started sequential (code_page ∷ []) 203) 10100 (process no_vectors 0 0 0 [] exits)) ≡ 226 ∷ 246 ∷ 2 ∷ 2 ∷ []
  pub issues : issue_cycles (instructions (started sequential (code_page ∷ []) 100) 10100 (process no_vectors 0 0 0 [] writes_hi).state) ≡ 117 ∷ 120 ∷ 123 ∷ 126 ∷ 129 ∷ 132 ∷ []

-- units, chaining, a reduction, divisions on the unit of multiplications, with two lanes and a window of four
pub record CalculatesHolds : Type 0 where
  pub beats : beat_cycles (instructions (started (overlapped 2 8 4) (code_page ∷ []) 0) 1000 (process (eight_elements 0) 0 0 0 [] calculates).state)
      ≡ (18 ∷ 19 ∷ 20 ∷ 21 ∷ []) ∷ (22 ∷ 23 ∷ 24 ∷ 25 ∷ []) ∷ (27 ∷ 28 ∷ 29 ∷ 30 ∷ []) ∷ (22 ∷ 30 ∷ 38 ∷ 46 ∷ []) ∷ [] ∷ []
  pub issues : issue_cycles (instructions (started (overlapped 2 8 4) (code_page ∷ []) 0) 1000 (process (eight_elements 0) 0 0 0 [] calculates).state) ≡ 17 ∷ 18 ∷ 19 ∷ 20 ∷ 64 ∷ []
  pub retires : retire_cycles (instructions (started (overlapped 2 8 4) (code_page ∷ []) 0) 1000 (process (eight_elements 0) 0 0 0 [] calculates).state) ≡ 26 ∷ 28 ∷ 35 ∷ 63 ∷ []
  pub ends : figures (episode (started (overlapped 2 8 4) (code_page ∷ []) 0) 1000 (process (eight_elements 0) 0 0 0 [] calculates)) ≡ 64 ∷ 84 ∷ 4 ∷ 4 ∷ []
  -- a slice that is over at 25 ends with the first retire, while three more instructions are in flight
  pub cut : figures (episode (started (overlapped 2 8 4) (code_page ∷ []) 0) 25 (process (eight_elements 0) 0 0 0 [] calculates)) ≡ 26 ∷ 46 ∷ 1 ∷ 1 ∷ []

-- loads of eight elements on four lanes and four banks: unit-stride, all on one bank, and two to a word
abbrev pub loading : Start
loading = started (overlapped 4 4 1) (code_page ∷ data_page ∷ []) 0

abbrev pub loader : Process
loader = process (eight_elements 0) 0x11000 32 8 (zero_page 17 ∷ []) loads

pub record LoadsHold : Type 0 where
  pub starts : start_cycles (instructions loading 1000 loader.state) ≡ (18 ∷ 35 ∷ []) ∷ (46 ∷ 47 ∷ []) ∷ (82 ∷ 83 ∷ []) ∷ (94 ∷ 95 ∷ []) ∷ [] ∷ []
  pub serves : serve_cycles (instructions loading 1000 loader.state)
      ≡ (35 ∷ 35 ∷ 35 ∷ 35 ∷ 39 ∷ 39 ∷ 39 ∷ 39 ∷ []) ∷ (47 ∷ 51 ∷ 55 ∷ 59 ∷ 63 ∷ 67 ∷ 71 ∷ 75 ∷ [])
      ∷ (83 ∷ 83 ∷ 83 ∷ 83 ∷ 87 ∷ 87 ∷ 87 ∷ 87 ∷ []) ∷ (95 ∷ 99 ∷ 95 ∷ 99 ∷ 96 ∷ 100 ∷ 96 ∷ 100 ∷ []) ∷ [] ∷ []
  pub retires : retire_cycles (instructions loading 1000 loader.state) ≡ 44 ∷ 80 ∷ 92 ∷ 105 ∷ []
  pub ends : figures (episode loading 1000 loader) ≡ 106 ∷ 126 ∷ 4 ∷ 8 ∷ []
  -- a slice that is over at 39 ends with the first batch, and vstart is 4 then; the accesses of the second, which are queued, are done
  pub cut : figures (episode loading 39 loader) ≡ 39 ∷ 63 ∷ 0 ∷ 1 ∷ []
  pub cut_within : vector_state_of (episode loading 39 loader) ≡ Some (eight_elements 4)
  -- one that is over at 40 ends with the retire
  pub cut_behind : figures (episode loading 40 loader) ≡ 44 ∷ 64 ∷ 1 ∷ 2 ∷ []

-- a load fills the cache without D, so the store behind it walks again; the next one hits
abbrev pub storing : Start
storing = started sequential (code_page ∷ data_page ∷ []) 0

abbrev pub storer : Process
storer = process no_vectors 0x11000 0 0 (zero_page 17 ∷ []) stores

abbrev pub read : (cycle : ℕ) → Port → (word value : ℕ) → cells.Access
read cycle port word value = record { cycle = cycle; port = port; word = word; written = false; bytes = 255; value = value }

abbrev pub written : (cycle : ℕ) → Port → (word value : ℕ) → cells.Access
written cycle port word value = record { cycle = cycle; port = port; word = word; written = true; bytes = 255; value = value }

pub record StoresHold : Type 0 where
  pub starts : start_cycles (instructions storing 1000 storer.state) ≡ (18 ∷ []) ∷ (42 ∷ []) ∷ (66 ∷ []) ∷ [] ∷ []
  pub serves : serve_cycles (instructions storing 1000 storer.state) ≡ (35 ∷ []) ∷ (59 ∷ []) ∷ (67 ∷ []) ∷ [] ∷ []
  pub ends : figures (episode storing 1000 storer) ≡ 73 ∷ 93 ∷ 3 ∷ 3 ∷ []
  pub residency : residency_of (episode storing 1000 storer) ≡ Some (placed_page 16 5 (Present 5 true false) ∷ placed_page 17 6 (Present 6 true true) ∷ [])
  pub log : log_of (episode storing 1000 storer) ≡ Some (
      read 5 port.FetchWalk 0 1025 ∷ read 9 port.FetchWalk 512 2049 ∷ read 13 port.FetchWalk 1040 5147 ∷ written 17 port.FetchWalk 1040 5211
      ∷ read 17 port.Fetch 2560 0x00b5342300053583 ∷ read 18 port.Fetch 2560 0x00b5342300053583
      ∷ read 22 port.Walk 0 1025 ∷ read 26 port.Walk 512 2049 ∷ read 30 port.Walk 1041 6167 ∷ written 34 port.Walk 1041 6231
      ∷ read 35 port.Data 3072 0 ∷ read 42 port.Fetch 2561 0x0000007300b53023
      ∷ read 46 port.Walk 0 1025 ∷ read 50 port.Walk 512 2049 ∷ read 54 port.Walk 1041 6231 ∷ written 58 port.Walk 1041 6359
      ∷ written 59 port.Data 3073 0 ∷ read 66 port.Fetch 2561 0x0000007300b53023 ∷ written 67 port.Data 3072 0 ∷ [])

-- a store of eight elements, of which three lie on page 17 and the others on page 18, on four lanes and two banks
abbrev pub across : Place → Start
across place = started (overlapped 4 2 1) (code_page ∷ data_page ∷ placed_page 18 6 place ∷ []) 0

abbrev pub last_page : MappedPage
last_page = record { number = 17; permissions = 6; bytes = replicate 4096 0 }

abbrev pub crosser : (vstart : ℕ) → Process
crosser vstart = process (eight_elements vstart) 0x11fe8 0 0 (last_page ∷ zero_page 18 ∷ []) stores_eight

pub record AcrossHolds : Type 0 where
  -- page 18 is away: it stops at element 3, with page 17 walked and those below done
  pub away : figures (episode (across Away) 1000 (crosser 0)) ≡ 50 ∷ 70 ∷ 0 ∷ 1 ∷ []
  pub away_at : ended_of (episode (across Away) 1000 (crosser 0)) ≡ Some (ended.Away 0x12000 Store)
  pub serves : serve_cycles (instructions (across Away) 1000 (crosser 0).state) ≡ (35 ∷ 35 ∷ 39 ∷ []) ∷ []
  pub vstart : vector_state_of (episode (across Away) 1000 (crosser 0)) ≡ Some (eight_elements 3)
  -- it goes on there once the page has come
  pub restarted : figures (episode (record (across (Present 7 false false)) { cycle = 1000 }) 2000 (crosser 3)) ≡ 1049 ∷ 1069 ∷ 1 ∷ 2 ∷ []
  pub restarts_serves : serve_cycles (instructions (record (across (Present 7 false false)) { cycle = 1000 }) 2000 (crosser 3).state) ≡ (1035 ∷ 1035 ∷ 1039 ∷ 1039 ∷ 1043 ∷ []) ∷ [] ∷ []
  -- page 18 isn't mapped: it faults there, at the same cycle
  pub faults : figures (episode (started (overlapped 4 2 1) (code_page ∷ data_page ∷ []) 0) 1000 (process (eight_elements 0) 0x11fe8 0 0 (last_page ∷ []) stores_eight)) ≡ 50 ∷ 70 ∷ 0 ∷ 1 ∷ []
  pub faults_with : ended_of (episode (started (overlapped 4 2 1) (code_page ∷ data_page ∷ []) 0) 1000 (process (eight_elements 0) 0x11fe8 0 0 (last_page ∷ []) stores_eight))
      ≡ Some (ended.Faulted (record { cause = 15; tval = 0x12000; vstart = 3 }))

-- a fault-only-first load whose element 5 lies on a page that isn't mapped, on four lanes and four banks with a window of four: vl is
-- 5, and the instruction behind it is issued once that is known
abbrev pub trimming : Start
trimming = started (overlapped 4 4 4) (code_page ∷ data_page ∷ []) 0

abbrev pub trimmer : Process
trimmer = process (eight_elements 0) 0x11fd8 0 0 (last_page ∷ []) loads_first

pub record TrimsHold : Type 0 where
  pub issues : issue_cycles (instructions trimming 1000 trimmer.state) ≡ 17 ∷ 52 ∷ 58 ∷ []
  pub serves : serve_cycles (instructions trimming 1000 trimmer.state) ≡ (35 ∷ 35 ∷ 35 ∷ 35 ∷ 39 ∷ []) ∷ [] ∷ [] ∷ []
  pub beats : beat_cycles (instructions trimming 1000 trimmer.state) ≡ [] ∷ (53 ∷ 54 ∷ []) ∷ [] ∷ []
  pub ends : figures (episode trimming 1000 trimmer) ≡ 58 ∷ 78 ∷ 2 ∷ 3 ∷ []
  pub length : vector_state_of (episode trimming 1000 trimmer) ≡ Some (record (eight_elements 0) { vl = 5 })

-- two loads of one word with a window of four: a slice that is over at 30 ends with the retire of the first, while the access of the
-- second is queued; the system takes over once that is done
abbrev pub twice : Start
twice = started (overlapped 4 8 4) (code_page ∷ data_page ∷ []) 0

abbrev pub twice_loader : Process
twice_loader = process no_vectors 0x11000 0 0 (zero_page 17 ∷ []) loads_twice

-- a store whose element 0 lies on page 18, which is away, and whose element 1 on page 17, which hits: that is stored before the other
-- is known to fail, and the episode ends with nothing of the instruction committed. The byte at 0x11000 is pending then
abbrev pub down : Start
down = started (overlapped 2 2 1) (code_page ∷ data_page ∷ placed_page 18 6 Away ∷ []) 0

abbrev pub two_elements : VectorState
two_elements = record (eight_elements 0) { vl = 2 }

abbrev pub down_storer : Process
down_storer = process two_elements 0x12000 (2 ^ 64 - 4096) 0x11000 (zero_page 17 ∷ zero_page 18 ∷ []) stores_down

pub record InFlightHold : Type 0 where
  pub serves : serve_cycles (instructions twice 1000 twice_loader.state) ≡ (35 ∷ []) ∷ (39 ∷ []) ∷ [] ∷ []
  pub cut : figures (episode twice 30 twice_loader) ≡ 40 ∷ 63 ∷ 1 ∷ 1 ∷ []
  pub goes_ahead : serve_cycles (instructions down 1000 down_storer.state) ≡ (35 ∷ []) ∷ (43 ∷ []) ∷ []
  pub stops : figures (episode down 1000 down_storer) ≡ 58 ∷ 78 ∷ 1 ∷ 1 ∷ []
  pub stops_at : ended_of (episode down 1000 down_storer) ≡ Some (ended.Away 0x12000 Store)
  pub pending : map (is_pending (record down_storer.state { pc = 0x10004 })) (0x11000 ∷ 0x11007 ∷ 0x11008 ∷ 0x12000 ∷ []) ≡ true ∷ true ∷ false ∷ true ∷ []

-- pages 16 and 24 have one place in the cache of fetches, and pages 17 and 49 in that of data: each puts the other out
abbrev pub far_jumper : Process
far_jumper = process no_vectors 0 0 0 (record { number = 24; permissions = 5; bytes = flat_map (little_endian 4) jumps_back } ∷ []) jumps

abbrev pub far_loader : Process
far_loader = process no_vectors 0x11000 0x31000 0 (zero_page 17 ∷ zero_page 49 ∷ []) loads_thrice

abbrev pub far_pages : Residency
far_pages = code_page ∷ data_page ∷ placed_page 49 6 (Present 7 false false) ∷ []

-- a gather whose first batch waits for the indices of its elements, with four lanes and a window of four
abbrev pub gatherer : Process
gatherer = process (eight_elements 0) 0x11000 0 0 (zero_page 17 ∷ []) gathers

abbrev pub gathering : Start
gathering = started (overlapped 4 8 4) (code_page ∷ data_page ∷ []) 0

-- a load whose page is away stops, with a window of four: three instructions behind it are issued, and the fourth is fetched, but
-- waits for the load's retire, which never comes; where the first needs what is loaded, it isn't issued, and no other is fetched
abbrev pub behind_stop : List ℕ → Option EpisodeEnd
behind_stop words = episode (started (overlapped 4 8 4) (code_page ∷ placed_page 18 6 Away ∷ []) 0) 1000 (process no_vectors 0x12000 0 0 (zero_page 18 ∷ []) words)

abbrev pub log_cycles : Option EpisodeEnd → List ℕ
log_cycles e = option_map_or (λ (e : EpisodeEnd). map (λ (a : cells.Access). a.cycle) e.log) e []

pub record WaitsHold : Type 0 where
  pub stops : figures (behind_stop goes_on) ≡ 34 ∷ 54 ∷ 0 ∷ 0 ∷ []
  pub fetched : log_cycles (behind_stop goes_on) ≡ 5 ∷ 9 ∷ 13 ∷ 17 ∷ 17 ∷ 18 ∷ 19 ∷ 20 ∷ 21 ∷ 22 ∷ 26 ∷ 30 ∷ []
  pub not_fetched : log_cycles (behind_stop waits_on) ≡ 5 ∷ 9 ∷ 13 ∷ 17 ∷ 17 ∷ 18 ∷ 22 ∷ 26 ∷ 30 ∷ []
  pub fetches : issue_cycles (instructions (started sequential (code_page ∷ placed_page 24 5 (Present 7 false false) ∷ []) 0) 1000 far_jumper.state) ≡ 17 ∷ 35 ∷ 53 ∷ []
  pub data_serves : serve_cycles (instructions (started sequential far_pages 0) 1000 far_loader.state) ≡ (35 ∷ []) ∷ (59 ∷ []) ∷ (83 ∷ []) ∷ [] ∷ []
  pub data_ends : figures (episode (started sequential far_pages 0) 1000 far_loader) ≡ 89 ∷ 109 ∷ 3 ∷ 3 ∷ []
  pub gather_starts : start_cycles (instructions gathering 1000 gatherer.state) ≡ [] ∷ (20 ∷ 37 ∷ []) ∷ [] ∷ []
  pub gather_serves : serve_cycles (instructions gathering 1000 gatherer.state) ≡ [] ∷ (37 ∷ 41 ∷ 45 ∷ 49 ∷ 53 ∷ 57 ∷ 61 ∷ 65 ∷ []) ∷ [] ∷ []
  pub gather_ends : figures (episode gathering 1000 gatherer) ≡ 71 ∷ 91 ∷ 2 ∷ 3 ∷ []

-- a page of code that is away stops at the end of its walk; vectors that the process hasn't got, at the issue
abbrev pub changed_in : Option EpisodeEnd → Option Bool
changed_in e = option_map (λ (e : EpisodeEnd). e.changed_vectors) e

abbrev pub code_away : Start
code_away = started sequential (placed_page 16 5 Away ∷ []) 100

abbrev pub lacking : Start
lacking = record (started sequential (code_page ∷ []) 0) { has_vectors = false }

abbrev pub having : Start
having = started sequential (code_page ∷ []) 0

pub record StopsHold : Type 0 where
  pub code : figures (episode code_away 1000 (process no_vectors 0 0 0 [] writes_hi)) ≡ 117 ∷ 137 ∷ 0 ∷ 0 ∷ []
  pub code_is : ended_of (episode code_away 1000 (process no_vectors 0 0 0 [] writes_hi)) ≡ Some (ended.Away 0x10000 Fetch)
  pub lacks : figures (episode lacking 1000 (process no_vectors 0 0 0 [] configures)) ≡ 17 ∷ 37 ∷ 0 ∷ 0 ∷ []
  pub lacks_vectors : ended_of (episode lacking 1000 (process no_vectors 0 0 0 [] configures)) ≡ Some ended.Vector
  -- reading vlenb leaves the vector state as it was; a configuration changes it
  pub reads : figures (episode having 1000 (process no_vectors 0 0 0 [] reads_vlenb)) ≡ 20 ∷ 40 ∷ 1 ∷ 1 ∷ []
  pub reads_alone : changed_in (episode having 1000 (process no_vectors 0 0 0 [] reads_vlenb)) ≡ Some false
  pub changes : changed_in (episode having 1000 (process no_vectors 0 64 0 [] configures)) ≡ Some true

-- a division, an addition that waits for it, and a multiplication; beats that wait for the words that are loaded
abbrev pub divider : Process
divider = process no_vectors 6 0 0 [] divides

abbrev pub chainer : Process
chainer = process (eight_elements 0) 0x11000 0 0 (zero_page 17 ∷ []) chains

pub record ChainsHold : Type 0 where
  pub divisions : issue_cycles (instructions (started (overlapped 1 8 4) (code_page ∷ []) 0) 1000 divider.state) ≡ 17 ∷ 37 ∷ 38 ∷ 43 ∷ []
  pub divisions_retire : retire_cycles (instructions (started (overlapped 1 8 4) (code_page ∷ []) 0) 1000 divider.state) ≡ 38 ∷ 39 ∷ 42 ∷ []
  pub beats : beat_cycles (instructions trimming 1000 chainer.state) ≡ [] ∷ (39 ∷ 43 ∷ []) ∷ [] ∷ []
  pub retires : retire_cycles (instructions trimming 1000 chainer.state) ≡ 44 ∷ 46 ∷ []
  pub ends : figures (episode trimming 1000 chainer) ≡ 47 ∷ 67 ∷ 2 ∷ 3 ∷ []

-- which words are handled, with two lanes: a move of whole registers handles the four words of two registers, whatever vl is; where vl
-- is 0 the others handle none, else one word of a mask, one word, and the eight words of vs2
abbrev pub mover : (vl : ℕ) → Process
mover vl = process (record (eight_elements 0) { vl = vl }) 0 0 0 [] moves_and_counts

abbrev pub moving_words : Start
moving_words = started (overlapped 2 8 4) (code_page ∷ []) 0

pub record HandlesHold : Type 0 where
  pub none_issue : issue_cycles (instructions moving_words 1000 (mover 0).state) ≡ 17 ∷ 18 ∷ 19 ∷ 20 ∷ 26 ∷ []
  pub none_beat : beat_cycles (instructions moving_words 1000 (mover 0).state) ≡ (18 ∷ 19 ∷ []) ∷ [] ∷ [] ∷ [] ∷ [] ∷ []
  pub none_retire : retire_cycles (instructions moving_words 1000 (mover 0).state) ≡ 22 ∷ 23 ∷ 24 ∷ 25 ∷ []
  pub eight_issue : issue_cycles (instructions moving_words 1000 (mover 8).state) ≡ 17 ∷ 18 ∷ 23 ∷ 24 ∷ 34 ∷ []
  pub eight_beat : beat_cycles (instructions moving_words 1000 (mover 8).state) ≡ (18 ∷ 19 ∷ []) ∷ (19 ∷ []) ∷ (24 ∷ []) ∷ (25 ∷ 26 ∷ 27 ∷ 28 ∷ []) ∷ [] ∷ []
  pub eight_retire : retire_cycles (instructions moving_words 1000 (mover 8).state) ≡ 22 ∷ 24 ∷ 29 ∷ 33 ∷ []

-- a load of two elements, of which the mask leaves out the first, with one element a batch: that is a batch without an access
abbrev pub masked_loader : Process
masked_loader = process (record two_elements { words = 2 ∷ replicate 63 0 }) 0x11000 0 0 (zero_page 17 ∷ []) loads_masked

pub record MasksHold : Type 0 where
  pub starts : start_cycles (instructions storing 1000 masked_loader.state) ≡ (18 ∷ 19 ∷ []) ∷ [] ∷ []
  pub serves : serve_cycles (instructions storing 1000 masked_loader.state) ≡ (36 ∷ []) ∷ [] ∷ []
  -- a slice that is over at 18 ends with it, and vstart is 1 then; one that is over at 19, with the retire
  pub cut : figures (episode storing 18 masked_loader) ≡ 18 ∷ 38 ∷ 0 ∷ 1 ∷ []
  pub cut_within : vector_state_of (episode storing 18 masked_loader) ≡ Some (record two_elements { words = 2 ∷ replicate 63 0; vstart = 1 })
  pub cut_behind : figures (episode storing 19 masked_loader) ≡ 41 ∷ 61 ∷ 1 ∷ 2 ∷ []

-- a store of four elements, two on page 17, one on page 18 and one on page 19, of which the last two can't be written. The load
-- before it has filled the cache with page 19, so element 3 is known to fail first; but element 2 is the lowest that fails
abbrev pub scatterer : Process
scatterer = process
    (record (eight_elements 0) { vl = 4; words = replicate 24 0 ++ (0 ∷ 8 ∷ 0x1000 ∷ 0x2000 ∷ replicate 36 0) })
    0x11000 0 0x13000
    (zero_page 17 ∷ record (zero_page 18) { permissions = 4 } ∷ record (zero_page 19) { permissions = 4 } ∷ []) scatters

abbrev pub scattering : Start
scattering = started (overlapped 4 8 1) (code_page ∷ data_page ∷ placed_page 18 4 (Present 7 false false) ∷ placed_page 19 4 (Present 8 false false) ∷ []) 0

pub record ScattersHold : Type 0 where
  pub serves : serve_cycles (instructions scattering 1000 scatterer.state) ≡ (35 ∷ []) ∷ (59 ∷ 59 ∷ []) ∷ []
  pub ends : figures (episode scattering 1000 scatterer) ≡ 74 ∷ 94 ∷ 1 ∷ 2 ∷ []
  pub faults_with : ended_of (episode scattering 1000 scatterer) ≡ Some (ended.Faulted (record { cause = 15; tval = 0x12000; vstart = 2 }))
  pub residency : residency_of (episode scattering 1000 scatterer)
      ≡ Some (placed_page 16 5 (Present 5 true false) ∷ placed_page 17 6 (Present 6 true true) ∷ placed_page 18 4 (Present 7 false false) ∷ placed_page 19 4 (Present 8 true false) ∷ [])

-- a jump to an address that isn't canonical: nothing is walked or read there. One to a page that is away: it is walked
abbrev pub wild_jumper : Process
wild_jumper = process no_vectors (2 ^ 63) 0 0 [] jumps_by

-- a jump to page 24 behind a division: a slice that is over at 30 ends with the division's retire at 35, and the walk for the fetch
-- behind the jump, from 20 to 36, has read its entries, but not set A; one that is over at 36 has it set, and the fetch made
abbrev pub two_code_pages : Place → Residency
two_code_pages place = code_page ∷ placed_page 24 5 place ∷ []

abbrev pub dividing : Start
dividing = started (overlapped 8 8 4) (two_code_pages (Present 7 false false)) 0

abbrev pub dividing_jumper : Process
dividing_jumper = process (eight_elements 0) 0 0 0 (record { number = 24; permissions = 5; bytes = flat_map (little_endian 4) jumps_back } ∷ []) divides_and_jumps

pub record JumpsHold : Type 0 where
  pub wild : figures (episode having 1000 wild_jumper) ≡ 20 ∷ 40 ∷ 1 ∷ 1 ∷ []
  pub wild_faults : ended_of (episode having 1000 wild_jumper) ≡ Some (ended.Faulted (record { cause = 12; tval = 2 ^ 63; vstart = 0 }))
  pub wild_log : log_cycles (episode having 1000 wild_jumper) ≡ 5 ∷ 9 ∷ 13 ∷ 17 ∷ 17 ∷ []
  pub away : figures (episode (started sequential (two_code_pages Away) 0) 1000 far_jumper) ≡ 35 ∷ 55 ∷ 1 ∷ 1 ∷ []
  pub away_at : ended_of (episode (started sequential (two_code_pages Away) 0) 1000 far_jumper) ≡ Some (ended.Away 0x18000 Fetch)
  pub away_log : log_cycles (episode (started sequential (two_code_pages Away) 0) 1000 far_jumper) ≡ 5 ∷ 9 ∷ 13 ∷ 17 ∷ 17 ∷ 23 ∷ 27 ∷ 31 ∷ []
  pub cut : figures (episode dividing 30 dividing_jumper) ≡ 35 ∷ 55 ∷ 1 ∷ 1 ∷ []
  pub cut_log : log_cycles (episode dividing 30 dividing_jumper) ≡ 5 ∷ 9 ∷ 13 ∷ 17 ∷ 17 ∷ 18 ∷ 24 ∷ 28 ∷ 32 ∷ []
  pub cut_residency : residency_of (episode dividing 30 dividing_jumper) ≡ Some (placed_page 16 5 (Present 5 true false) ∷ placed_page 24 5 (Present 7 false false) ∷ [])
  pub walked : figures (episode dividing 36 dividing_jumper) ≡ 36 ∷ 56 ∷ 2 ∷ 2 ∷ []
  pub walked_log : log_cycles (episode dividing 36 dividing_jumper) ≡ 5 ∷ 9 ∷ 13 ∷ 17 ∷ 17 ∷ 18 ∷ 24 ∷ 28 ∷ 32 ∷ 36 ∷ 36 ∷ []
  pub walked_residency : residency_of (episode dividing 36 dividing_jumper) ≡ Some (placed_page 16 5 (Present 5 true false) ∷ placed_page 24 5 (Present 7 true false) ∷ [])

-- eight elements on one bank, two a batch: the third batch waits for the commit of the first, and the fourth for that of the second
abbrev pub apart : Start
apart = started (overlapped 2 4 1) (code_page ∷ data_page ∷ []) 0

abbrev pub apart_loader : Process
apart_loader = process (eight_elements 0) 0x11000 32 0 (zero_page 17 ∷ []) loads_apart

-- two elements of four fields on one bank: the last field of element 1 lies on a page that isn't mapped, so vl becomes 1. The three
-- fields before it were queued by then, and are waited for
abbrev pub fields : Start
fields = started (overlapped 8 1 4) (code_page ∷ data_page ∷ []) 0

abbrev pub fields_loader : Process
fields_loader = process (record two_elements { vtype = 0x19 }) 0x11fc8 0 0 (last_page ∷ []) loads_fields

-- 128 elements of which the mask leaves elements 0 and 64, with one lane: the first batch, of elements 0 to 63, also waits for the word
-- with the mask's bit of element 64, which is made a cycle after the word with theirs
abbrev pub by_mask : Start
by_mask = started (overlapped 1 8 4) (code_page ∷ data_page ∷ []) 0

abbrev pub mask_loader : Process
mask_loader = process
    (record (eight_elements 0) { vl = 128; vtype = 3; words = 0 ∷ 0 ∷ 1 ∷ 1 ∷ replicate 60 0 })
    0x11000 0 0 (zero_page 17 ∷ []) loads_by_mask

pub record BatchesHold : Type 0 where
  pub mask_beats : beat_cycles (instructions by_mask 1000 mask_loader.state) ≡ (18 ∷ 19 ∷ []) ∷ [] ∷ [] ∷ []
  pub mask_starts : start_cycles (instructions by_mask 1000 mask_loader.state) ≡ [] ∷ (21 ∷ 38 ∷ []) ∷ [] ∷ []
  pub mask_serves : serve_cycles (instructions by_mask 1000 mask_loader.state) ≡ [] ∷ (38 ∷ 42 ∷ []) ∷ [] ∷ []
  pub mask_ends : figures (episode by_mask 1000 mask_loader) ≡ 48 ∷ 68 ∷ 2 ∷ 3 ∷ []
  -- with a window of four a store's batch still starts behind the retire before it
  pub store_starts : start_cycles (instructions twice 1000 storer.state) ≡ (18 ∷ []) ∷ (41 ∷ []) ∷ (64 ∷ []) ∷ [] ∷ []
  pub store_issues : issue_cycles (instructions twice 1000 storer.state) ≡ 17 ∷ 39 ∷ 40 ∷ 71 ∷ []
  pub store_serves : serve_cycles (instructions twice 1000 storer.state) ≡ (35 ∷ []) ∷ (58 ∷ []) ∷ (65 ∷ []) ∷ [] ∷ []
  pub apart_starts : start_cycles (instructions apart 1000 apart_loader.state) ≡ (18 ∷ 35 ∷ 44 ∷ 52 ∷ []) ∷ [] ∷ []
  pub apart_serves : serve_cycles (instructions apart 1000 apart_loader.state) ≡ (35 ∷ 39 ∷ 43 ∷ 47 ∷ 51 ∷ 55 ∷ 59 ∷ 63 ∷ []) ∷ [] ∷ []
  pub apart_ends : figures (episode apart 1000 apart_loader) ≡ 69 ∷ 89 ∷ 1 ∷ 4 ∷ []
  pub apart_cut : figures (episode apart 44 apart_loader) ≡ 51 ∷ 79 ∷ 0 ∷ 2 ∷ []
  pub apart_within : vector_state_of (episode apart 44 apart_loader) ≡ Some (eight_elements 4)
  pub fields_serves : serve_cycles (instructions fields 1000 fields_loader.state) ≡ (35 ∷ 39 ∷ 43 ∷ 47 ∷ 51 ∷ 55 ∷ 59 ∷ []) ∷ [] ∷ [] ∷ []
  pub fields_issues : issue_cycles (instructions fields 1000 fields_loader.state) ≡ 17 ∷ 51 ∷ 66 ∷ []
  pub fields_beats : beat_cycles (instructions fields 1000 fields_loader.state) ≡ [] ∷ (55 ∷ []) ∷ [] ∷ []
  pub fields_retire : retire_cycles (instructions fields 1000 fields_loader.state) ≡ 64 ∷ 65 ∷ []
  pub fields_end : figures (episode fields 1000 fields_loader) ≡ 66 ∷ 86 ∷ 2 ∷ 2 ∷ []

-- a gather whose second batch begins with a misaligned access: the commit of the first batch and the stop of the second come at one
-- cycle, and the commit is first. A stop behind the end of a slice is a stop where no commit came since
abbrev pub uneven : Process
uneven = process
    (record (eight_elements 0) { words = replicate 24 0 ++ (0 ∷ 8 ∷ 16 ∷ 24 ∷ 33 ∷ 40 ∷ 48 ∷ 56 ∷ replicate 32 0) })
    0x11000 0 0 (zero_page 17 ∷ []) gathers_alone

pub record TiesHold : Type 0 where
  pub commit : figures (episode loading 39 uneven) ≡ 39 ∷ 59 ∷ 0 ∷ 1 ∷ []
  pub commit_is : ended_of (episode loading 39 uneven) ≡ Some ended.Slice
  pub stop : figures (episode loading 40 uneven) ≡ 39 ∷ 59 ∷ 0 ∷ 1 ∷ []
  pub stop_is : ended_of (episode loading 40 uneven) ≡ Some (ended.Faulted (record { cause = 4; tval = 0x11021; vstart = 4 }))
  pub behind_slice : ended_of (episode (across Away) 20 (crosser 0)) ≡ Some (ended.Away 0x12000 Store)
  pub service : ended_of (episode (started sequential (code_page ∷ []) 100) 132 (process no_vectors 0 0 0 [] writes_hi)) ≡ Some ended.Service
  pub retire : figures (episode (started sequential (code_page ∷ []) 100) 131 (process no_vectors 0 0 0 [] writes_hi)) ≡ 131 ∷ 151 ∷ 5 ∷ 5 ∷ []
  pub retire_is : ended_of (episode (started sequential (code_page ∷ []) 100) 131 (process no_vectors 0 0 0 [] writes_hi)) ≡ Some ended.Slice

-- a load from page 24, and a jump there: both walk, and neither has written A before the other reads the leaf, so both write it. The
-- jump back walks again from 38 on, since page 24 has put page 16 out of the cache; it reads nothing by the end at 40
abbrev pub side_by_side : Option EpisodeEnd
side_by_side = episode (started (overlapped 4 8 4) (two_code_pages (Present 7 false false)) 0) 30 (record far_jumper { state = record far_jumper.state { x = replicate 10 0 ++ (0x18000 ∷ replicate 21 0); memory = program loads_and_jumps ∷ record { number = 24; permissions = 5; bytes = flat_map (little_endian 4) jumps_back } ∷ [] } })

abbrev pub writes_of : Option EpisodeEnd → List cells.Access
writes_of e = option_map_or (λ (e : EpisodeEnd). filter (λ (a : cells.Access). a.written) e.log) e []

pub record WalksHold : Type 0 where
  pub ends : figures side_by_side ≡ 40 ∷ 60 ∷ 1 ∷ 1 ∷ []
  pub cycles : log_cycles side_by_side ≡ 5 ∷ 9 ∷ 13 ∷ 17 ∷ 17 ∷ 18 ∷ 22 ∷ 24 ∷ 26 ∷ 28 ∷ 30 ∷ 32 ∷ 34 ∷ 35 ∷ 36 ∷ 36 ∷ []
  pub writes : writes_of side_by_side ≡ written 17 port.FetchWalk 1040 5211 ∷ written 34 port.Walk 1048 7259 ∷ written 36 port.FetchWalk 1048 7259 ∷ []

-- each operand in an x register is waited for, but not x0: here for products, three cycles behind their issue. A fence waits for the
-- retire before it, and the fetch behind a branch begins two cycles behind its issue
abbrev pub wide : (lanes : ℕ) → Start
wide lanes = started (overlapped lanes 8 16) (code_page ∷ data_page ∷ []) 0

abbrev pub by_operands : (words : List ℕ) → Process
by_operands words = process two_elements 0x11000 1 8 (zero_page 17 ∷ []) words

-- a load over words that divisions make later: the addition waits for these
abbrev pub over_divisions : Process
over_divisions = by_operands loads_over

-- a store of the high half of a word
abbrev pub half_storer : Process
half_storer = process no_vectors 0x11000 5 0 (zero_page 17 ∷ []) stores_half

-- a fault-only-first load whose element 5 lies on a page that is away: that stops it, and vl stays
abbrev pub loads_away : Option EpisodeEnd
loads_away = episode (record trimming { residency = code_page ∷ data_page ∷ placed_page 18 6 Away ∷ [] }) 1000
    (process (eight_elements 0) 0x11fd8 0 0 (last_page ∷ zero_page 18 ∷ []) loads_first)

-- one whose element 0 can't be read
abbrev pub loads_none : Option EpisodeEnd
loads_none = episode trimming 1000 (process (eight_elements 0) 0x12000 0 0 (last_page ∷ []) loads_first)

-- vectors that the process hasn't got
abbrev pub lacks_for : (words : List ℕ) → Option Ended
lacks_for words = ended_of (episode lacking 1000 (process (eight_elements 0) 0x11000 0 0 [] words))

pub record OperandsHold : Type 0 where
  pub operands : issue_cycles (instructions (wide 2) 1000 (by_operands waits_for_operands).state) ≡ 17 ∷ 20 ∷ 21 ∷ 22 ∷ 27 ∷ 28 ∷ 30 ∷ 33 ∷ 36 ∷ []
  pub bases : issue_cycles (instructions (wide 2) 1000 (by_operands waits_for_bases).state) ≡ 17 ∷ 20 ∷ 21 ∷ 24 ∷ 25 ∷ 28 ∷ 29 ∷ 32 ∷ 76 ∷ []
  pub over : beat_cycles (instructions (wide 1) 1000 over_divisions.state) ≡ (18 ∷ 26 ∷ []) ∷ (34 ∷ 42 ∷ []) ∷ [] ∷ (50 ∷ 58 ∷ []) ∷ [] ∷ []
  pub half : writes_of (episode storing 1000 half_storer)
      ≡ written 17 port.FetchWalk 1040 5211 ∷ written 34 port.Walk 1041 6359 ∷ record (written 35 port.Data 3072 (5 * 2 ^ 32)) { bytes = 240 } ∷ []
  pub away : ended_of loads_away ≡ Some (ended.Away 0x12000 Load)
  pub none : ended_of loads_none ≡ Some (ended.Faulted (record { cause = 13; tval = 0x12000; vstart = 0 }))
  pub arithmetic : lacks_for calculates ≡ Some ended.Vector
  pub load : lacks_for loads_first ≡ Some ended.Vector
  pub store : lacks_for stores_eight ≡ Some ended.Vector
  pub control : lacks_for reads_vlenb ≡ Some ended.Vector

-- three loads of pages that are there, two of one word, with a window of four: the batch of the third waits for the retire of the
-- first. A slice that is over at 40 ends before it is queued, and one that is over at 41 at that cycle: its access is served then
abbrev pub thrice_loader : Process
thrice_loader = process no_vectors 0x11000 0x11008 0 (zero_page 17 ∷ []) loads_thrice

-- additions with a window of four: the retire of the first comes at the cycle of the third's fetch
abbrev pub goer : Process
goer = process no_vectors 0 0 0 [] (replicate 6 0x00060613)

-- a store whose element 0 can't be written, which is known at 58, behind one that fills the cache: elements 1 to 5 hit, and are queued
-- at 42, on one bank
abbrev pub scatterer_behind : Process
scatterer_behind = process
    (record (eight_elements 0) { vl = 6; words = replicate 24 0 ++ (0x1000 ∷ 0 ∷ 8 ∷ 16 ∷ 24 ∷ 32 ∷ replicate 34 0) })
    0x11000 0 0x11000 (zero_page 17 ∷ []) scatters_behind

abbrev pub on_one_bank : Start
on_one_bank = started (overlapped 8 1 1) (code_page ∷ data_page ∷ []) 0

-- four fields of two elements, of which the last lies on a page that isn't mapped: the stop waits for element 0, and not for the fields
-- of element 1 that are queued
abbrev pub four_fields : Option EpisodeEnd
four_fields = episode fields 1000 (process (record two_elements { vtype = 0x19 }) 0x11fc8 0 0 (last_page ∷ []) loads_four_fields)

pub record FlightHolds : Type 0 where
  pub starts : start_cycles (instructions twice 1000 thrice_loader.state) ≡ (18 ∷ []) ∷ (35 ∷ []) ∷ (41 ∷ []) ∷ [] ∷ []
  pub ends : figures (episode twice 1000 thrice_loader) ≡ 48 ∷ 68 ∷ 3 ∷ 3 ∷ []
  pub before_queue : figures (episode twice 40 thrice_loader) ≡ 40 ∷ 60 ∷ 1 ∷ 1 ∷ []
  pub before_log : log_cycles (episode twice 40 thrice_loader) ≡ 5 ∷ 9 ∷ 13 ∷ 17 ∷ 17 ∷ 18 ∷ 19 ∷ 20 ∷ 22 ∷ 26 ∷ 30 ∷ 34 ∷ 35 ∷ 36 ∷ []
  pub at_queue : figures (episode twice 41 thrice_loader) ≡ 41 ∷ 66 ∷ 2 ∷ 2 ∷ []
  pub at_log : log_cycles (episode twice 41 thrice_loader) ≡ 5 ∷ 9 ∷ 13 ∷ 17 ∷ 17 ∷ 18 ∷ 19 ∷ 20 ∷ 22 ∷ 26 ∷ 30 ∷ 34 ∷ 35 ∷ 36 ∷ 42 ∷ []
  pub fetched : log_cycles (episode twice 0 goer) ≡ 5 ∷ 9 ∷ 13 ∷ 17 ∷ 17 ∷ 18 ∷ 19 ∷ []
  pub scatters : figures (episode on_one_bank 1000 scatterer_behind) ≡ 58 ∷ 83 ∷ 1 ∷ 1 ∷ []
  pub scatters_with : ended_of (episode on_one_bank 1000 scatterer_behind) ≡ Some (ended.Faulted (record { cause = 15; tval = 0x12000; vstart = 0 }))
  pub scatters_log : log_cycles (episode on_one_bank 1000 scatterer_behind)
      ≡ 5 ∷ 9 ∷ 13 ∷ 17 ∷ 17 ∷ 18 ∷ 22 ∷ 26 ∷ 30 ∷ 34 ∷ 35 ∷ 42 ∷ 43 ∷ 46 ∷ 47 ∷ 50 ∷ 51 ∷ 54 ∷ 55 ∷ 59 ∷ []
  pub four : figures four_fields ≡ 51 ∷ 83 ∷ 0 ∷ 1 ∷ []
  pub four_log : log_cycles four_fields ≡ 5 ∷ 9 ∷ 13 ∷ 17 ∷ 17 ∷ 18 ∷ 22 ∷ 26 ∷ 30 ∷ 34 ∷ 35 ∷ 38 ∷ 39 ∷ 42 ∷ 43 ∷ 46 ∷ 47 ∷ 51 ∷ 55 ∷ 59 ∷ []

-- a load from page 24, and a jump there four cycles later: the load's walk writes the leaf at 34, where the fetch's reads it, and sees
-- A. And the other way round: the fetch's walk writes the leaf at 47, where the load's reads it, and doesn't see A
abbrev pub one_behind : Option EpisodeEnd
one_behind = episode (started (overlapped 4 8 4) (two_code_pages (Present 7 false false)) 0) 30
    (process no_vectors 0x18000 0 0 (record { number = 24; permissions = 5; bytes = flat_map (little_endian 4) jumps_back } ∷ []) loads_and_goes)

abbrev pub other_behind : Option EpisodeEnd
other_behind = episode (started (overlapped 4 8 16) (code_page ∷ data_page ∷ placed_page 24 5 (Present 7 false false) ∷ []) 0) 50
    (process no_vectors 0x18000 0x11000 0 (zero_page 17 ∷ record { number = 24; permissions = 5; bytes = flat_map (little_endian 4) jumps_back } ∷ []) loads_twice_and_goes)

abbrev pub log_at : (cycle : ℕ) → Option EpisodeEnd → List cells.Access
log_at cycle e = option_map_or (λ (e : EpisodeEnd). filter (λ (a : cells.Access). a.cycle == cycle) e.log) e []

-- two elements on one bank, and a load from another page, whose walk reads where the second is served
abbrev pub two_pages : Option EpisodeEnd
two_pages = episode (started (overlapped 2 1 4) (code_page ∷ data_page ∷ placed_page 18 6 (Present 7 false true) ∷ []) 0) 1000
    (process two_elements 0x11000 8 0x12000 (zero_page 17 ∷ zero_page 18 ∷ []) loads_two_pages)

-- a page that is read again once it is out of the cache: D is set by then, so the store behind hits
abbrev pub again : Option EpisodeEnd
again = episode (started sequential far_pages 0) 1000 (process no_vectors 0x11000 0 0x31000 (zero_page 17 ∷ zero_page 49 ∷ []) stores_again)

pub record TiedWalksHold : Type 0 where
  pub sees : writes_of one_behind ≡ written 17 port.FetchWalk 1040 5211 ∷ written 34 port.Walk 1048 7259 ∷ []
  pub sees_at : log_at 34 one_behind ≡ written 34 port.Walk 1048 7259 ∷ read 34 port.FetchWalk 1048 7259 ∷ []
  pub sees_residency : residency_of one_behind ≡ Some (placed_page 16 5 (Present 5 true false) ∷ placed_page 24 5 (Present 7 true false) ∷ [])
  pub misses : writes_of other_behind
      ≡ written 17 port.FetchWalk 1040 5211 ∷ written 34 port.Walk 1041 6231 ∷ written 47 port.FetchWalk 1048 7259 ∷ written 51 port.Walk 1048 7259 ∷ []
  pub misses_at : log_at 47 other_behind
      ≡ read 47 port.Walk 1048 7195 ∷ written 47 port.FetchWalk 1048 7259 ∷ read 47 port.Fetch 3584 0x804f806f ∷ []
  pub two_at : log_at 39 two_pages ≡ read 39 port.Data 3073 0 ∷ read 39 port.Walk 0 1025 ∷ []
  pub again_ends : figures again ≡ 97 ∷ 117 ∷ 4 ∷ 4 ∷ []
  pub again_writes : map (λ (a : cells.Access). a.cycle) (writes_of again) ≡ 17 ∷ 34 ∷ 35 ∷ 58 ∷ 91 ∷ []

-- with a bank time of 2
abbrev pub quick : Start
quick = record storing { machine = record sequential { bank_time = 2 } }

-- elements on two pages: the second hits, and is served before the first
abbrev pub down_present : Start
down_present = record down { residency = code_page ∷ data_page ∷ placed_page 18 6 (Present 7 false false) ∷ [] }

-- a page that can't be written is in the cache: it is known at the start
abbrev pub read_only : Option EpisodeEnd
read_only = episode (record storing { residency = code_page ∷ placed_page 17 4 (Present 6 false false) ∷ [] }) 1000
    (process no_vectors 0x11000 0 0 (record (zero_page 17) { permissions = 4 } ∷ []) loads_and_stores)

-- an address that isn't canonical: it isn't walked
abbrev pub wild_loader : Process
wild_loader = process no_vectors (2 ^ 63) 0 0 [] loads_twice

abbrev pub process_of : Option EpisodeEnd → Option Process
process_of e = option_map (λ (e : EpisodeEnd). e.process) e

-- how many instructions it has completed, and the next one
abbrev pub place_of_process : Option EpisodeEnd → List ℕ
place_of_process e = option_map_or (λ (e : EpisodeEnd). e.process.count ∷ e.process.state.pc ∷ []) e []

-- a misaligned load, behind a division: it stops behind the division's retire
abbrev pub behind_division : Option EpisodeEnd
behind_division = episode twice 1000 (process no_vectors 0x11001 0 0 (zero_page 17 ∷ []) divides_and_loads)

-- loads that shorten vl to 1, in the first of two batches, and that have no element
abbrev pub trims_first : Process
trims_first = process (eight_elements 0) 0x11ff8 0 0 (last_page ∷ []) loads_first

abbrev pub trims_none : Process
trims_none = process (record (eight_elements 0) { vl = 0 }) 0x11ff8 0 0 (last_page ∷ []) loads_first

-- a word of which half is loaded
abbrev pub half_loader : Process
half_loader = process no_vectors 0x11000 0 0 (record { number = 17; permissions = 6; bytes = little_endian 8 0x0000000700000005 } ∷ []) loads_half

-- stores of a byte of a wide number, and of two elements
abbrev pub byte_storer : Process
byte_storer = process no_vectors 0x11000 0x1234 0 (zero_page 17 ∷ []) stores_byte

abbrev pub pair_storer : Process
pair_storer = process (record two_elements { words = replicate 16 0 ++ (7 ∷ 9 ∷ replicate 46 0) }) 0x11000 0 0 (zero_page 17 ∷ []) stores_eight

-- pages 16 and 20 have different places in the cache of fetches, and pages 17 and 33 in that of data
abbrev pub near_jumper : Process
near_jumper = process no_vectors 0 0 0 (record { number = 20; permissions = 5; bytes = flat_map (little_endian 4) jumps_back_near } ∷ []) jumps_near

abbrev pub near_loader : Process
near_loader = process no_vectors 0x11000 0x21000 0 (zero_page 17 ∷ zero_page 33 ∷ []) loads_thrice

abbrev pub near_pages : Residency
near_pages = code_page ∷ data_page ∷ placed_page 33 6 (Present 7 false false) ∷ []

pub record AccessesHold : Type 0 where
  pub near_fetches : issue_cycles (instructions (started sequential (code_page ∷ placed_page 20 5 (Present 7 false false) ∷ []) 0) 1000 near_jumper.state) ≡ 17 ∷ 35 ∷ 38 ∷ []
  pub near_serves : serve_cycles (instructions (started sequential near_pages 0) 1000 near_loader.state) ≡ (35 ∷ []) ∷ (59 ∷ []) ∷ (67 ∷ []) ∷ [] ∷ []
  pub quick_ends : figures (episode quick 1000 storer) ≡ 43 ∷ 63 ∷ 3 ∷ 3 ∷ []
  pub quick_log : log_cycles (episode quick 1000 storer) ≡ 3 ∷ 5 ∷ 7 ∷ 9 ∷ 9 ∷ 10 ∷ 12 ∷ 14 ∷ 16 ∷ 18 ∷ 19 ∷ 24 ∷ 26 ∷ 28 ∷ 30 ∷ 32 ∷ 33 ∷ 38 ∷ 39 ∷ []
  pub down_serves : serve_cycles (instructions down_present 1000 down_storer.state) ≡ (35 ∷ []) ∷ (43 ∷ 59 ∷ []) ∷ [] ∷ []
  pub down_ends : figures (episode down_present 1000 down_storer) ≡ 65 ∷ 85 ∷ 2 ∷ 2 ∷ []
  pub denied : figures read_only ≡ 42 ∷ 62 ∷ 1 ∷ 1 ∷ []
  pub denied_is : ended_of read_only ≡ Some (ended.Faulted (record { cause = 15; tval = 0x11000; vstart = 0 }))
  pub wild : figures (episode twice 1000 wild_loader) ≡ 18 ∷ 38 ∷ 0 ∷ 0 ∷ []
  pub wild_process : process_of (episode twice 1000 wild_loader)
      ≡ Some (record wild_loader { over = Some (end.Faulted (record { cause = 13; tval = 2 ^ 63; vstart = 0 })) })
  pub at_queue : place_of_process (episode twice 41 thrice_loader) ≡ 2 ∷ 0x10008 ∷ []
  pub division : figures behind_division ≡ 39 ∷ 59 ∷ 1 ∷ 1 ∷ []
  pub division_is : ended_of behind_division ≡ Some (ended.Faulted (record { cause = 4; tval = 0x11001; vstart = 0 }))
  -- a batch that is done commits behind the retire before it
  pub commits_behind : figures (episode trimming 44 (record chainer { state = record chainer.state { memory = program divides_and_chains ∷ zero_page 17 ∷ [] } })) ≡ 44 ∷ 64 ∷ 1 ∷ 2 ∷ []
  pub first_starts : start_cycles (instructions trimming 1000 trims_first.state) ≡ (18 ∷ []) ∷ [] ∷ [] ∷ []
  pub first_ends : figures (episode trimming 1000 trims_first) ≡ 56 ∷ 76 ∷ 2 ∷ 2 ∷ []
  pub none_issues : issue_cycles (instructions trimming 1000 trims_none.state) ≡ 17 ∷ 19 ∷ 22 ∷ []
  pub byte : log_at 35 (episode storing 1000 byte_storer) ≡ record (written 35 port.Data 3072 0x3400) { bytes = 2 } ∷ []
  pub pair : log_at 35 (episode loading 1000 pair_storer) ≡ written 35 port.Data 3072 7 ∷ written 35 port.Data 3073 9 ∷ []
  -- tables from frame 8 on
  pub rooted : log_at 5 (episode (record storing { root = 8 }) 1000 storer) ≡ read 5 port.FetchWalk 4096 9217 ∷ []
  pub half : log_at 35 (episode storing 1000 half_loader) ≡ read 35 port.Data 3072 0x0000000700000005 ∷ []
  -- of the accesses of one cycle, that on the lowest bank is first; those that are queued by the end are there
  pub banks : option_map_or (λ (e : EpisodeEnd). map (λ (a : cells.Access). a.word) e.log) (episode loading 39 loader) []
      ≡ 0 ∷ 512 ∷ 1040 ∷ 1040 ∷ 2560 ∷ 2560 ∷ 0 ∷ 512 ∷ 1041 ∷ 1041 ∷ 3072 ∷ 3073 ∷ 3074 ∷ 3075 ∷ 3076 ∷ 3077 ∷ 3078 ∷ 3079 ∷ []

-- what else an instruction may be: what it stops with, what it waits for, and whether it changes the vector state
abbrev pub ends_with : Start → (words : List ℕ) → Option Ended
ends_with start words = ended_of (episode start 1000 (process no_vectors 0x11000 0 0 (zero_page 17 ∷ []) words))

abbrev pub lacking_wide : Start
lacking_wide = record (wide 2) { has_vectors = false }

-- a jump to page 17, which can't be executed, and on which a vector instruction stands
abbrev pub jumps_to_data : Option EpisodeEnd
jumps_to_data = episode lacking_wide 1000 (process no_vectors 0x11000 0 0 (record (program adds) { number = 17; permissions = 6 } ∷ []) jumps_by)

pub record FootprintsHold : Type 0 where
  pub misaligned : figures (episode having 1000 (process no_vectors 0 0 0 [] (0x0020006f ∷ []))) ≡ 17 ∷ 37 ∷ 0 ∷ 0 ∷ []
  pub misaligned_is : ends_with having (0x0020006f ∷ []) ≡ Some (ended.Faulted (record { cause = 0; tval = 0x10002; vstart = 0 }))
  pub illegal : ends_with having (0 ∷ []) ≡ Some (ended.Faulted (record { cause = 2; tval = 0; vstart = 0 }))
  pub unset : ends_with having adds ≡ Some (ended.Faulted (record { cause = 2; tval = 0x02840657; vstart = 0 }))
  pub unset_lacking : ends_with lacking_wide adds ≡ Some ended.Vector
  pub none_lacking : ends_with lacking_wide needs_none ≡ Some (ended.Faulted (record { cause = 3; tval = 0; vstart = 0 }))
  pub asks_lacking : ends_with lacking_wide (0x00000073 ∷ []) ≡ Some ended.Service
  -- csrrs t0, cycle, zero
  pub other_lacking : ends_with lacking_wide (0xc00022f3 ∷ []) ≡ Some (ended.Faulted (record { cause = 2; tval = 0xc00022f3; vstart = 0 }))
  pub denied_lacking : ended_of jumps_to_data ≡ Some (ended.Faulted (record { cause = 12; tval = 0x11000; vstart = 0 }))
  pub denied_log : log_cycles jumps_to_data ≡ 5 ∷ 9 ∷ 13 ∷ 17 ∷ 17 ∷ 23 ∷ 27 ∷ 31 ∷ []
  pub rounds_issues : issue_cycles (instructions (wide 2) 1000 (by_operands rounds).state) ≡ 17 ∷ 22 ∷ 25 ∷ []
  pub rounds_changes : changed_in (episode (wide 2) 1000 (by_operands rounds)) ≡ Some true
  pub adds_changes : changed_in (episode (wide 2) 1000 (by_operands adds)) ≡ Some true
  pub loads_changes : changed_in (episode loading 39 loader) ≡ Some true
  pub loads_before : changed_in (episode twice 1000 wild_loader) ≡ Some false
  pub stops_changes : changed_in (episode (across Away) 1000 (crosser 0)) ≡ Some true
  pub stops_before : changed_in (episode down 1000 down_storer) ≡ Some false
  pub configures : issue_cycles (instructions (wide 2) 1000 (by_operands configures_twice).state) ≡ 17 ∷ 18 ∷ 19 ∷ 20 ∷ 23 ∷ 26 ∷ []
  pub numbers : issue_cycles (instructions (wide 2) 1000 (by_operands shares_numbers).state) ≡ 17 ∷ 18 ∷ 19 ∷ 20 ∷ 48 ∷ []
  pub permutes : beat_cycles (instructions (wide 2) 1000 (process (eight_elements 0) 0 0 0 [] permutes).state)
      ≡ (18 ∷ 19 ∷ 20 ∷ 21 ∷ []) ∷ (22 ∷ 23 ∷ 24 ∷ 25 ∷ []) ∷ (23 ∷ 24 ∷ 25 ∷ 26 ∷ []) ∷ (27 ∷ 28 ∷ 29 ∷ 30 ∷ []) ∷ (27 ∷ 28 ∷ 29 ∷ 30 ∷ []) ∷ (31 ∷ 32 ∷ 33 ∷ 34 ∷ []) ∷ [] ∷ []
  -- from element 3 to element 6: a group of word 3 alone, one of two, and one of word 6 alone
  pub groups : beat_cycles (instructions (wide 2) 1000 (process (record (eight_elements 3) { vl = 7 }) 0 0 0 [] adds).state) ≡ (18 ∷ 19 ∷ 20 ∷ []) ∷ [] ∷ []

-- three elements on pages 17, 18 and 19, of which page 18 isn't mapped: page 19 isn't walked
abbrev pub three_pages : Option EpisodeEnd
three_pages = episode (started (overlapped 4 8 1) (code_page ∷ data_page ∷ placed_page 19 6 (Present 7 false false) ∷ []) 0) 1000
    (process (record two_elements { vl = 3 }) 0x11000 0x1000 0 (zero_page 17 ∷ zero_page 19 ∷ []) loads_apart)

-- a store whose element 0 lies on page 18, which is in the cache and can't be written, and element 1 on page 17, which is there with D:
-- it is known at the start that the first fails, so the second isn't queued
abbrev pub down_denied : Option EpisodeEnd
down_denied = episode (record down { residency = code_page ∷ data_page ∷ placed_page 18 4 (Present 7 false false) ∷ [] }) 1000
    (process two_elements 0x12000 (2 ^ 64 - 4096) 0x11000 (zero_page 17 ∷ record (zero_page 18) { permissions = 4 } ∷ []) loads_and_stores_down)

-- a page that can only be executed is kept in the cache of fetches as well
abbrev pub only_executed : Start
only_executed = started sequential (placed_page 16 1 (Present 5 false false) ∷ []) 0

pub record KnownHolds : Type 0 where
  pub number : issue_cycles (instructions (wide 2) 1000 (by_operands configures_by_number).state) ≡ 17 ∷ 18 ∷ 23 ∷ []
  pub retires : retire_cycles (instructions trimming 1000 trimmer.state) ≡ 52 ∷ 57 ∷ []
  pub fetches : issue_cycles (instructions only_executed 1000 (record goer.state { memory = record (program goes_twice) { permissions = 1 } ∷ [] })) ≡ 17 ∷ 20 ∷ 23 ∷ []
  pub exits_is : ended_of (episode (started sequential (code_page ∷ []) 203) 10100 (process no_vectors 0 0 0 [] exits)) ≡ Some ended.Service
  pub jumps : issue_cycles (instructions (wide 2) 1000 (process two_elements 0x10000 1 0 [] waits_to_jump).state) ≡ 17 ∷ 20 ∷ 22 ∷ 25 ∷ 28 ∷ []
  pub squares : beat_cycles (instructions (wide 2) 1000 (process (eight_elements 0) 0 0 0 [] squares).state) ≡ (18 ∷ 19 ∷ 20 ∷ 21 ∷ []) ∷ (20 ∷ 21 ∷ 22 ∷ 23 ∷ []) ∷ [] ∷ []
  pub three : figures three_pages ≡ 50 ∷ 70 ∷ 0 ∷ 1 ∷ []
  pub three_with : ended_of three_pages ≡ Some (ended.Faulted (record { cause = 13; tval = 0x12000; vstart = 1 }))
  pub down : figures down_denied ≡ 66 ∷ 86 ∷ 2 ∷ 2 ∷ []
  pub down_with : ended_of down_denied ≡ Some (ended.Faulted (record { cause = 15; tval = 0x12000; vstart = 0 }))

-- which bytes are pending: those of a scalar store, and of a vector store from vstart on; none of a load, nor of an access that fails
abbrev pub pending_among : Flat → List ℕ → List Bool
pending_among s addresses = map (is_pending s) addresses

pub record PendingHolds : Type 0 where
  pub scalar : pending_among half_storer.state (0x11003 ∷ 0x11004 ∷ 0x11007 ∷ 0x11008 ∷ []) ≡ false ∷ true ∷ true ∷ false ∷ []
  pub scalar_fails : pending_among (record half_storer.state { memory = program stores_half ∷ record (zero_page 17) { permissions = 4 } ∷ [] }) (0x11004 ∷ []) ≡ false ∷ []
  pub load : pending_among loader.state (0x11000 ∷ []) ≡ false ∷ []
  pub from_vstart : pending_among (crosser 3).state (0x11ff8 ∷ 0x12000 ∷ 0x12027 ∷ 0x12028 ∷ []) ≡ false ∷ true ∷ true ∷ false ∷ []
  pub fails : pending_among (record scatterer_behind.state { pc = 0x10004 }) (0x11000 ∷ 0x12000 ∷ []) ≡ true ∷ false ∷ []

pub record ExamplesHold : Type 0 where
  pub hi : HiHolds
  pub calculates : CalculatesHolds
  pub loads : LoadsHold
  pub stores : StoresHold
  pub across : AcrossHolds
  pub trims : TrimsHold
  pub in_flight : InFlightHold
  pub waits : WaitsHold
  pub stops : StopsHold
  pub chains : ChainsHold
  pub handles : HandlesHold
  pub masks : MasksHold
  pub scatters : ScattersHold
  pub jumps : JumpsHold
  pub batches : BatchesHold
  pub ties : TiesHold
  pub walks : WalksHold
  pub operands : OperandsHold
  pub flight : FlightHolds
  pub tied_walks : TiedWalksHold
  pub accesses : AccessesHold
  pub footprints : FootprintsHold
  pub pending : PendingHolds
  pub known : KnownHolds
