use Rattle.std.proofs.Common.{refl}
use Rattle.vx_rows.specs.Table.{operations}
use Rattle.vx_flat.specs.Step.{upcoming, performed}
use Rattle.vx_tables.specs.Residency.{page_map, after_walk}
use Rattle.vx_tables.specs.Walks.{walk, table_walk}
use Rattle.vx_tables.specs.Tables.{entry_in}
use Rattle.vx_cells.specs.Merging.{merged}
use Rattle.vx_vector.specs.Arithmetic.{after_elements}
use Rattle.vx_vector.specs.Batches.{longest_run}
use Rattle.vx_packed.specs.Joined.{some_below}
use Rattle.vx_episode.specs.Footprint.{footprint}
use Rattle.vx_episode.specs.Episode.{run_on, fetched_on, episode}
use Rattle.vx_episode.specs.Examples.{HiHolds, CalculatesHolds, LoadsHold, StoresHold, AcrossHolds, TrimsHold, InFlightHold, WaitsHold, StopsHold, ChainsHold, HandlesHold, MasksHold, ScattersHold, JumpsHold, BatchesHold, TiesHold, WalksHold, OperandsHold, FlightHolds, TiedWalksHold, AccessesHold, FootprintsHold, PendingHolds, KnownHolds}
use Rattle.vx_episode.specs.Show.{is_pending}
use Rattle.vx_episode.proofs.laws.examples_hold.Goals as goal

hi : HiHolds
unfolding operations upcoming performed page_map after_walk walk table_walk entry_in merged after_elements longest_run some_below footprint run_on fetched_on episode
hi = record { writes = refl; leaves = refl; issues = refl }

calculates : CalculatesHolds
unfolding operations upcoming performed page_map after_walk walk table_walk entry_in merged after_elements longest_run some_below footprint run_on fetched_on episode
calculates = record { beats = refl; issues = refl; retires = refl; ends = refl; cut = refl }

loads : LoadsHold
unfolding operations upcoming performed page_map after_walk walk table_walk entry_in merged after_elements longest_run some_below footprint run_on fetched_on episode
loads = record { starts = refl; serves = refl; retires = refl; ends = refl; cut = refl; cut_within = refl; cut_behind = refl }

stores : StoresHold
unfolding operations upcoming performed page_map after_walk walk table_walk entry_in merged after_elements longest_run some_below footprint run_on fetched_on episode
stores = record { starts = refl; serves = refl; ends = refl; residency = refl; log = refl }

across : AcrossHolds
unfolding operations upcoming performed page_map after_walk walk table_walk entry_in merged after_elements longest_run some_below footprint run_on fetched_on episode
across = record { away = refl; away_at = refl; serves = refl; vstart = refl; restarted = refl; restarts_serves = refl; faults = refl; faults_with = refl }

trims : TrimsHold
unfolding operations upcoming performed page_map after_walk walk table_walk entry_in merged after_elements longest_run some_below footprint run_on fetched_on episode
trims = record { issues = refl; serves = refl; beats = refl; ends = refl; length = refl }

in_flight : InFlightHold
unfolding operations upcoming performed page_map after_walk walk table_walk entry_in merged after_elements longest_run some_below footprint run_on fetched_on episode is_pending
in_flight = record { serves = refl; cut = refl; goes_ahead = refl; stops = refl; stops_at = refl; pending = refl }

waits : WaitsHold
unfolding operations upcoming performed page_map after_walk walk table_walk entry_in merged after_elements longest_run some_below footprint run_on fetched_on episode
waits = record { stops = refl; fetched = refl; not_fetched = refl; fetches = refl; data_serves = refl; data_ends = refl; gather_starts = refl; gather_serves = refl; gather_ends = refl }

stops : StopsHold
unfolding operations upcoming performed page_map after_walk walk table_walk entry_in merged after_elements longest_run some_below footprint run_on fetched_on episode
stops = record { code = refl; code_is = refl; lacks = refl; lacks_vectors = refl; reads = refl; reads_alone = refl; changes = refl }

chains : ChainsHold
unfolding operations upcoming performed page_map after_walk walk table_walk entry_in merged after_elements longest_run some_below footprint run_on fetched_on episode
chains = record { divisions = refl; divisions_retire = refl; beats = refl; retires = refl; ends = refl }

handles : HandlesHold
unfolding operations upcoming performed page_map after_walk walk table_walk entry_in merged after_elements longest_run some_below footprint run_on fetched_on episode
handles = record { none_issue = refl; none_beat = refl; none_retire = refl; eight_issue = refl; eight_beat = refl; eight_retire = refl }

masks : MasksHold
unfolding operations upcoming performed page_map after_walk walk table_walk entry_in merged after_elements longest_run some_below footprint run_on fetched_on episode
masks = record { starts = refl; serves = refl; cut = refl; cut_within = refl; cut_behind = refl }

scatters : ScattersHold
unfolding operations upcoming performed page_map after_walk walk table_walk entry_in merged after_elements longest_run some_below footprint run_on fetched_on episode
scatters = record { serves = refl; ends = refl; faults_with = refl; residency = refl }

jumps : JumpsHold
unfolding operations upcoming performed page_map after_walk walk table_walk entry_in merged after_elements longest_run some_below footprint run_on fetched_on episode
jumps = record { wild = refl; wild_faults = refl; wild_log = refl; away = refl; away_at = refl; away_log = refl; cut = refl; cut_log = refl; cut_residency = refl; walked = refl; walked_log = refl; walked_residency = refl }

batches : BatchesHold
unfolding operations upcoming performed page_map after_walk walk table_walk entry_in merged after_elements longest_run some_below footprint run_on fetched_on episode
batches = record { mask_beats = refl; mask_starts = refl; mask_serves = refl; mask_ends = refl; store_starts = refl; store_issues = refl; store_serves = refl; apart_starts = refl; apart_serves = refl; apart_ends = refl; apart_cut = refl; apart_within = refl; fields_serves = refl; fields_issues = refl; fields_beats = refl; fields_retire = refl; fields_end = refl }

ties : TiesHold
unfolding operations upcoming performed page_map after_walk walk table_walk entry_in merged after_elements longest_run some_below footprint run_on fetched_on episode
ties = record { commit = refl; commit_is = refl; stop = refl; stop_is = refl; behind_slice = refl; service = refl; retire = refl; retire_is = refl }

walks : WalksHold
unfolding operations upcoming performed page_map after_walk walk table_walk entry_in merged after_elements longest_run some_below footprint run_on fetched_on episode
walks = record { ends = refl; cycles = refl; writes = refl }

operands : OperandsHold
unfolding operations upcoming performed page_map after_walk walk table_walk entry_in merged after_elements longest_run some_below footprint run_on fetched_on episode
operands = record { operands = refl; bases = refl; over = refl; half = refl; away = refl; none = refl; arithmetic = refl; load = refl; store = refl; control = refl }

flight : FlightHolds
unfolding operations upcoming performed page_map after_walk walk table_walk entry_in merged after_elements longest_run some_below footprint run_on fetched_on episode
flight = record { starts = refl; ends = refl; before_queue = refl; before_log = refl; at_queue = refl; at_log = refl; fetched = refl; scatters = refl; scatters_with = refl; scatters_log = refl; four = refl; four_log = refl }

tied_walks : TiedWalksHold
unfolding operations upcoming performed page_map after_walk walk table_walk entry_in merged after_elements longest_run some_below footprint run_on fetched_on episode
tied_walks = record { sees = refl; sees_at = refl; sees_residency = refl; misses = refl; misses_at = refl; two_at = refl; again_ends = refl; again_writes = refl }

accesses : AccessesHold
unfolding operations upcoming performed page_map after_walk walk table_walk entry_in merged after_elements longest_run some_below footprint run_on fetched_on episode
accesses = record { near_fetches = refl; near_serves = refl; quick_ends = refl; quick_log = refl; down_serves = refl; down_ends = refl; denied = refl; denied_is = refl; wild = refl; wild_process = refl; at_queue = refl; division = refl; division_is = refl; commits_behind = refl; first_starts = refl; first_ends = refl; none_issues = refl; byte = refl; pair = refl; rooted = refl; half = refl; banks = refl }

footprints : FootprintsHold
unfolding operations upcoming performed page_map after_walk walk table_walk entry_in merged after_elements longest_run some_below footprint run_on fetched_on episode
footprints = record { misaligned = refl; misaligned_is = refl; illegal = refl; unset = refl; unset_lacking = refl; none_lacking = refl; asks_lacking = refl; other_lacking = refl; denied_lacking = refl; denied_log = refl; rounds_issues = refl; rounds_changes = refl; adds_changes = refl; loads_changes = refl; loads_before = refl; stops_changes = refl; stops_before = refl; configures = refl; numbers = refl; permutes = refl; groups = refl }

pending : PendingHolds
unfolding operations upcoming performed page_map after_walk walk table_walk entry_in merged after_elements longest_run some_below footprint run_on fetched_on episode is_pending
pending = record { scalar = refl; scalar_fails = refl; load = refl; from_vstart = refl; fails = refl }

known : KnownHolds
unfolding operations upcoming performed page_map after_walk walk table_walk entry_in merged after_elements longest_run some_below footprint run_on fetched_on episode
known = record { number = refl; retires = refl; fetches = refl; exits_is = refl; jumps = refl; squares = refl; three = refl; three_with = refl; down = refl; down_with = refl }

pub returns : goal.returns
returns c = record { hi = hi; calculates = calculates; loads = loads; stores = stores; across = across; trims = trims; in_flight = in_flight; waits = waits; stops = stops; chains = chains; handles = handles; masks = masks; scatters = scatters; jumps = jumps; batches = batches; ties = ties; walks = walks; operands = operands; flight = flight; tied_walks = tied_walks; accesses = accesses; footprints = footprints; pending = pending; known = known }
