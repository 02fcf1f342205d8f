-- A run of many nodes opens with its script over the logs that the nodes raised: each client has its lines at the node where it sits.
use Rattle.std.proofs.Common.{◌≡◌, ◌⊎◌, ◌∙◌, ap, inl, inr, refl, subst, sym, ℕ, zero, suc, ◌<◌, ◌==◌, Bool, true, false, List, [], ◌∷◌, length, map, cond, arith, slice_get, Some, if◌then◌else◌}
use Rattle.std.specs.Prelude.{◌&&◌, ◌||◌, find}
use Rattle.std.specs.Global.{Global}
use Rattle.std.proofs.lemmas.Bool.{eqb-true}
use Rattle.std.proofs.lemmas.Bool.Decides.{nat_tests}
use Rattle.qs_base.specs.declared.identifiers.ClientNo.{ClientNo}
use Rattle.qs_base.specs.declared.identifiers.NodeNo.{NodeNo}
use Rattle.qs_book_script.specs.declared.script.Script.{Script}
use Rattle.qs_book_script.specs.declared.script.Seat.{Seat}
use Rattle.qs_cell.specs.Restart.{inc_of}
use Rattle.qs_cell.specs.State.{carried_of}
use Rattle.qs_cell.specs.declared.state.CellState.{CellState}
use Rattle.qs_client.specs.declared.cell.ClientCell.{ClientCell}
use Rattle.qs_disk.specs.Disk.{DiskState}
use Rattle.qs_node_step.specs.declared.setting.Setting.{Setting}
use Rattle.qs_session_channels.proofs.Grown.{among_append}
use Rattle.qs_session_channels.specs.Network.{Among}
use Rattle.qs_text_script.specs.Rules.{sits}
use Rattle.qs_world_merge.proofs.Members.{map_among}
use Rattle.qs_world_nodes.proofs.Places.{low_of}
use Rattle.qs_world_nodes.specs.Openings.{NodesHaveOpening, SitOnce, forced_in, inc_by, log_by, opening_over}
use Rattle.qs_world_opening.specs.Scripts.{node_of, place_of}
use Rattle.qs_world_plans.specs.Plan.{commands_of, setting_of}
use Rattle.qs_world_plans.specs.Waiting.{client_count}
use Rattle.qs_world_rounds.specs.Rounds.{Cast}
use Rattle.qs_world_rounds.specs.Seats.{BeginsAt, number_of, seated, seated_as, seated_below, sits_at}
use Rattle.qs_world_seats.specs.Sites.{OpensSite}
use Rattle.qs_world_sites.specs.Sites.{SitesValue}

-- ---- who is seated has a seat there

one_seated : (node : NodeNo) (seats : List Seat) (m k : ClientNo) (b : Bool) → sits_at node m seats ≡ b → Among (if b then m ∷ [] else []) k → sits_at node k seats ≡ true
one_seated node seats m k true is (inl same) = subst (λ (c : ClientNo). sits_at node c seats ≡ true) same is
one_seated node seats m k true is (inr there) = absurd there
one_seated node seats m k false is there = absurd there

sits_there : (node : NodeNo) (seats : List Seat) (n : ℕ) (k : ClientNo) → Among (seated_below node seats n) k → sits_at node k seats ≡ true
sits_there node seats zero k there = absurd there
sits_there node seats (suc n) k there = by (sits_there node seats n k) (among_append (seated_below node seats n) (seated_as node (record { 0 = n }) seats) k there)
  where
    by : (Among (seated_below node seats n) k → sits_at node k seats ≡ true) → Among (seated_below node seats n) k ⊎ Among (seated_as node (record { 0 = n }) seats) k → sits_at node k seats ≡ true
    by earlier (inl front) = earlier front
    by earlier (inr back) = one_seated node seats (record { 0 = n }) k (sits_at node (record { 0 = n }) seats) refl back

is_seated : (node : NodeNo) (seats : List Seat) (clients : List ClientCell) → map number_of clients ≡ seated node seats → (client : ClientCell) → Among clients client → sits_at node client.client seats ≡ true
unfolding seated
is_seated node seats clients numbers client there =
    sits_there node seats client_count client.client (subst (λ (l : List ClientNo). Among l client.client) numbers (map_among number_of clients client client.client there refl))

-- ---- and where each sits at one node, it is the first seat that names it

record HasSeat (node : NodeNo) (k : ClientNo) (seats : List Seat) : Type 0 where
  seat : Seat
  there : Among seats seat
  client : seat.client.0 ≡ k.0
  at : seat.node.0 ≡ node.0

seat_of : (node : NodeNo) (k : ClientNo) (seats : List Seat) → sits_at node k seats ≡ true → HasSeat node k seats
seat_of node k [] has = absurd (cc has)
seat_of node k (x ∷ xs) has = by (λ some. seat_of node k xs some) (x.client.0 == k.0) refl (x.node.0 == node.0) refl has
  where
    behind : HasSeat node k xs → HasSeat node k (x ∷ xs)
    behind s = record { seat = s.seat; there = inr s.there; client = s.client; at = s.at }

    by : (sits_at node k xs ≡ true → HasSeat node k xs) → (a : Bool) → (x.client.0 == k.0) ≡ a → (b : Bool) → (x.node.0 == node.0) ≡ b → ((a && b) || sits_at node k xs) ≡ true → HasSeat node k (x ∷ xs)
    by more true is true at some = record { seat = x; there = inl refl; client = eqb-true x.client.0 k.0 is; at = eqb-true x.node.0 node.0 at }
    by more true is false at some = behind (more some)
    by more false is b at some = behind (more some)

-- some seat names the client, and each that does is at that node
placed : (n : ℕ) (k : ClientNo) (seats : List Seat) → ((a : Seat) → Among seats a → a.client.0 ≡ k.0 → a.node.0 ≡ n) → (s : Seat) → Among seats s → s.client.0 ≡ k.0 → place_of seats k.0 ≡ n
placed n k [] all s there named = absurd there
placed n k (x ∷ xs) all s there named = by (λ behind. placed n k xs (λ a among. all a (inr among)) s behind named) (x.client.0 == k.0) refl there
  where
    no : (m : ℕ) → (m == m) ≡ false → ⊥
    no m e = grind (arith, nat_tests, e)

    by : (Among xs s → place_of xs k.0 ≡ n) → (b : Bool) → (x.client.0 == k.0) ≡ b → (x ≡ s) ⊎ Among xs s → node_of (cond b (Some x) (find (sits k.0) xs)) ≡ n
    by more true is where_it = all x (inl refl) (eqb-true x.client.0 k.0 is)
    by more false is (inl same) = absurd (no k.0 (ap (λ (m : ℕ). m == k.0) (sym (ap (λ (t : Seat). t.client.0) same ∙ named)) ∙ is))
    by more false is (inr behind) = more behind

its_place : (node : NodeNo) (seats : List Seat) (k : ClientNo) → SitOnce seats → sits_at node k seats ≡ true → place_of seats k.0 ≡ node.0
its_place node seats k once has =
    let s : HasSeat node k seats = seat_of node k seats has in
    placed node.0 k seats (λ a there named. once a s.seat there s.there (named ∙ sym s.client) ∙ s.at) s.seat s.there s.client

-- ---- a site

pub inc_is : {D : Type 0} (told : Type 0) (state : D → DiskState) (own : D → ℕ) (alloc : Global) (script : Script) (size n : ℕ) (disk : D) (site : Cast D) (b : BeginsAt told state own alloc script size (record { 0 = n }) disk site)
    → (carried_of site.node.seat.node).setting.inc ≡ inc_of b.started.running.host.log
inc_is told state own alloc script size n disk site b = ap (λ (c : CellState _). (carried_of c).setting.inc) b.started.node ∙ ap (λ (s : Setting). s.inc) b.started.begins.setting

module _ {D : Type 0} (told : Type 0) (state : D → DiskState) (own : D → ℕ) (alloc : Global) (script : Script) (disks : List D) (all : SitesValue D) (once : SitOnce script.seats) where
  site_opens : (n : ℕ) (disk : D) (site : Cast D) → n < length disks → slice_get all.sites n ≡ Some site → (b : BeginsAt told state own alloc script (length disks) (record { 0 = n }) disk site)
      → OpensSite alloc n (setting_of script (length disks) (record { 0 = n }) 0) script site.clients b.started.running.host.log (opening_over alloc script disks all.sites)
  site_opens n disk site low is b = record {
    node = record {
      alloc_is = refl;
      in_run = low;
      nodes = refl;
      node = refl;
      setting_is = ap (setting_of script (length disks) (record { 0 = n })) (ap inc_by is ∙ inc_is told state own alloc script (length disks) n disk site b);
      log_is = ap log_by is ∙ ap (λ (c : CellState D). forced_in c) b.started.node;
    };
    scripts = λ client there. ap (λ (m : ℕ). (m, commands_of client.client script.lines)) (its_place (record { 0 = n }) script.seats client.client once (is_seated (record { 0 = n }) script.seats site.clients b.clients client there));
  }

pub each_opening : {D : Type 0} (told : Type 0) (state : D → DiskState) (own : D → ℕ) (alloc : Global) (script : Script) (disks : List D) (all : SitesValue D) → NodesHaveOpening told state own alloc script disks all
each_opening told state own alloc script disks all begun once = record {
  size = refl;
  sites = λ n disk site of_disk there. site_opens told state own alloc script disks all once n disk site (low_of disks n disk of_disk) there (begun.each n disk site of_disk there);
}
