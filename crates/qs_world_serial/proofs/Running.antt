-- What came of the places behind no sites is a whole run.
use Rattle.std.proofs.Common.{◌≡◌, ◌∙◌, ◌≤◌, ◌<◌, ◌+◌, ◌*◌, ◌^◌, ap, refl, subst, sym, ℕ, zero, suc, List, [], ◌∷◌, ◌++◌, length, arith}
use Rattle.std.proofs.lemmas.List.{length-append}
use Rattle.std.proofs.lemmas.Nat.{mul-le}
use Rattle.std.specs.Global.{Global}
use Rattle.std.specs.List.{find}
use Rattle.std.specs.Prelude.{Some, None, Option, Result, IfOk, slice_get}
use Rattle.qs_base.specs.declared.identifiers.ClientNo.{ClientNo}
use Rattle.qs_base.specs.declared.identifiers.NodeNo.{NodeNo}
use Rattle.qs_base.specs.declared.memory.NoMemory.{NoMemory}
use Rattle.qs_book_script.specs.declared.script.Script.{Script}
use Rattle.qs_book_script.specs.declared.script.Seat.{Seat}
use Rattle.qs_cell.specs.Logged.{most_rounds}
use Rattle.qs_cell.specs.State.{disk_of, rounds_of}
use Rattle.qs_cell.specs.declared.state.CellState.{CellState}
use Rattle.qs_cell_chronicle.specs.Carried.{Seen}
use Rattle.qs_disk.specs.Disk.{DiskState}
use Rattle.qs_world_plans.specs.Budget.{most_budget}
use Rattle.qs_world_plans.specs.Waiting.{client_count}
use Rattle.qs_world_rounds.specs.Rounds.{Cast, visits_of}
use Rattle.qs_world_rounds.specs.Seats.{BeginsAt}
use Rattle.qs_world_rounds.specs.declared.faults.RoundFault.{RoundFault}
use Rattle.qs_world_rounds.specs.declared.rounds.Ending.{Ending}
use Rattle.qs_world_serial.proofs.Linking.{got_links}
use Rattle.qs_world_serial.specs.Behind.{CameOf, HasRunBehind}
use Rattle.qs_world_serial.specs.Serial.{EachBeside, HasRun, IsNotOpened, IsRun, IsToldBy, LeavesDisk}
use Rattle.qs_world_serial.specs.declared.places.Course.{Course}
use Rattle.qs_world_serial.specs.declared.serial.SerialRun.{SerialRun}
use Rattle.qs_world_serial.specs.declared.serial.SerialRun.TheVariants as runs
use Rattle.qs_world_serial.specs.declared.serial.SiteTold.{SiteTold}
use Rattle.qs_world_sites.specs.Late.{IsLate}
use Rattle.qs_world_sites.specs.Seats.{HasBegun, is_seat_of, nodes_below, turn_at, turns_below, turns_of}
use Rattle.qs_world_sites.specs.Sites.{count_of}
use Rattle.qs_world_sites.specs.declared.turn.Turn.{Turn}

-- ---- how many actors there are

nodes_long : (n : ℕ) → length (nodes_below n) ≡ n
nodes_long zero = refl
nodes_long (suc n) =
    let all : length (nodes_below n ++ record { site = n; place = 0 } ∷ []) ≡ length (nodes_below n) + 1 = length-append (nodes_below n) (record { site = n; place = 0 } ∷ []) in
    omega (arith, all, nodes_long n)

turn_once : (client : ClientNo) (seat : Option Seat) (seats : List Seat) → length (turn_at client seat seats) ≤ 1
turn_once client None seats = omega arith
turn_once client (Some seat) seats = omega arith

clients_few : (seats : List Seat) (n : ℕ) → length (turns_below seats n) ≤ n
clients_few seats zero = omega arith
clients_few seats (suc n) =
    let next : List Turn = turn_at (record { 0 = n }) (find (is_seat_of (record { 0 = n })) seats) seats in
    let all : length (turns_below seats n ++ next) ≡ length (turns_below seats n) + length next = length-append (turns_below seats n) next in
    let one : length next ≤ 1 = turn_once (record { 0 = n }) (find (is_seat_of (record { 0 = n })) seats) seats in
    omega (arith, all, one, clients_few seats n)

turns_few : (size : ℕ) (seats : List Seat) → length (turns_of size seats) ≤ size + 32
unfolding turns_of
turns_few size seats =
    let all : length (nodes_below size ++ turns_below seats client_count) ≡ length (nodes_below size) + length (turns_below seats client_count) = length-append (nodes_below size) (turns_below seats client_count) in
    omega (arith, all, nodes_long size, clients_few seats client_count)

-- ---- a restart that finds damage would come too late

too_late : (visits count most : ℕ) → visits ≡ 0 → count ≤ 40 → most ≤ 2 ^ 32 → most_rounds < visits + count * most → ⊥
too_late visits count most none few within late =
    let all : count * most ≤ 40 * 2 ^ 32 = mul-le count most 40 (2 ^ 32) few within in
    omega (arith, none, all, late)

module _ {D : Type 0} (told : Type 0) (state : D → DiskState) (own size : D → ℕ) where
  unvisited : (alloc : Global) (script : Script) (nodes : ℕ) (node : NodeNo) (disk : D) (site : Cast D) → BeginsAt told state own alloc script nodes node disk site → visits_of site ≡ 0
  unvisited alloc script nodes node disk site begins = ap (λ (n : CellState D). rounds_of n) begins.started.node ∙ ap (λ (s : Seen). s.told.rounds) begins.started.begins.seen

  -- ---- a whole run

  module _ (course : Course) (script : Script) (disks afters : List D) (nodes : course.nodes ≡ length disks) (few : length disks ≤ 8) where
    module _ (left : List (Cast D)) (ending : Result Ending RoundFault) (tells : Result (List SiteTold) NoMemory) (ran : HasRunBehind told state own size course script ending tells [] left disks afters) where
      sites_are : ran.first.sites ≡ ran.begun
      sites_are = ran.first_is

      none_left : (sites : List (Cast D)) → length sites ≡ 0 → sites ++ ran.gone ≡ ran.gone
      none_left [] none = refl
      none_left (site ∷ sites) none = absurd (omega (arith, none))

      last_are : ran.last.sites ≡ ran.gone
      last_are = ran.last_is ∙ none_left left ran.kept

      begins_at : (n : ℕ) (disk : D) (site : Cast D) → slice_get disks n ≡ Some disk → slice_get ran.first.sites n ≡ Some site → BeginsAt told state own course.alloc script (length disks) (record { 0 = n }) disk site
      begins_at n disk site of_disk there =
          subst (λ (k : ℕ). BeginsAt told state own course.alloc script k (record { 0 = n }) disk site) nodes
          (subst (λ (k : ℕ). BeginsAt told state own course.alloc script course.nodes (record { 0 = k }) disk site) (omega arith)
          (ran.begins.each n disk site of_disk (ap (λ (l : List (Cast D)). slice_get l n) (sym sites_are) ∙ there)))

      begun : HasBegun told state own course.alloc script disks ran.first
      begun = record {
        count = ap (λ (l : List (Cast D)). length l) sites_are ∙ ran.begins.count;
        each = begins_at;
        links = λ n m a b here there apart. ran.links.links n m a.node.links b.node.links (got_links script.faults course.nodes ran.first.sites n a here) (got_links script.faults course.nodes ran.first.sites m b there) apart;
        turns = subst (λ (k : ℕ). ran.first.turns ≡ turns_of k script.seats) nodes ran.turns;
      }

      never_late : most_budget script ≤ 2 ^ 32 → IsLate (count_of ran.first * most_budget script) ran.first.sites → ⊥
      never_late within late = too_late (visits_of late.site) (count_of ran.first) (most_budget script) none count within late.late
        where
          of_disk : (n : ℕ) (xs : List D) (ys : List (Cast D)) (site : Cast D) → length ys ≡ length xs → slice_get ys n ≡ Some site → (disk : D) × (slice_get xs n ≡ Some disk)
          of_disk n [] [] site same there = absurd (cc there)
          of_disk n [] (y ∷ ys) site same there = absurd (omega (arith, same))
          of_disk n (x ∷ xs) [] site same there = absurd (cc there)
          of_disk zero (x ∷ xs) (y ∷ ys) site same there = (x, refl)
          of_disk (suc n) (x ∷ xs) (y ∷ ys) site same there = of_disk n xs ys site (omega (arith, same)) there

          none : visits_of late.site ≡ 0
          none =
              let (disk, is) = of_disk late.node disks ran.first.sites late.site begun.count late.is in
              unvisited course.alloc script (length disks) (record { 0 = late.node }) disk late.site (begins_at late.node disk late.site is late.is)

          count : count_of ran.first ≤ 40
          count =
              let long : length ran.first.turns ≡ length (turns_of (length disks) script.seats) = ap (λ (l : List Turn). length l) begun.turns in
              omega (arith, long, turns_few (length disks) script.seats, few)

      pub ran_whole : HasRun told state own size script course.seed ending tells disks afters
      ran_whole = record {
        alloc = course.alloc;
        first = ran.first;
        last = ran.last;
        begins = begun;
        bytes = subst (EachBeside (λ n disk (site : Cast D). size (disk_of site.node.seat.node).disk ≡ size disk) disks) (sym sites_are) ran.bytes;
        ends = ran.made.ends;
        cut = ran.made.cut;
        refused = ran.made.refused;
        undamaged = λ yes within is. never_late within (ran.made.damaged yes is);
        stays = ran.made.stays;
        leaves = subst (λ (l : List (Cast D)). EachBeside (λ n. LeavesDisk told state) l afters) (sym last_are) ran.leaves;
        tells_is = subst (λ (l : List (Cast D)). IfOk tells (EachBeside (λ n. IsToldBy) l)) (sym last_are) ran.tells_is;
      }

    run_of : (left : List (Cast D)) (run : SerialRun) → CameOf told state own size course script run [] left disks afters → IsRun told state own size script course.seed run disks afters
    run_of left (runs.NotOpened node why) came =
        subst (λ (k : ℕ). IsNotOpened told state own size k why disks afters) (let is = came.1.node_is in omega arith) came.1.not_opened
    run_of left runs.NoMemory came = came.1
    run_of left (runs.Ended ending tells) came = ran_whole left ending tells came

    -- where none had begun before
    pub run_from : (run : SerialRun) (sites left : List (Cast D)) → sites ≡ [] → CameOf told state own size course script run sites left disks afters → IsRun told state own size script course.seed run disks afters
    run_from run sites left none came = run_of left run (subst (λ (l : List (Cast D)). CameOf told state own size course script run l left disks afters) none came)
