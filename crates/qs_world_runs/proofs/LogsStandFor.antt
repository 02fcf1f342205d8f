-- After a crash and a restart all stands together again, so what the node took up from its log is what the machine has.
use Rattle.qs_world_runs.proofs.Words.{◌≡◌, ℕ, ◌<◌, ◌==◌, ◌&&◌, not, nat_lt, Bool, true, Some, refl, sym, subst, ◌∙◌, if◌then◌else◌, slice_get, BookValue, recovery, Rise, may_move, moved, Opening, World, HoldsStill, HoldsLogged, HoldsNodeAt, HoldsUp, of_some, Joined, book_in, AlongRun, eqb-self, ltb-true}
use Rattle.qs_book_machine.specs.Nodes as machine
use Rattle.qs_world.specs.Moves.{is_in_order, stamp_limit}
use Rattle.qs_world_refine.proofs.SoundParts.{and_both}
use Rattle.qs_world_lawful.specs.Tables.{HoldsServers, is_seen}
use Rattle.qs_world_runs.specs.StandsFor.{EachLogStandsFor, IsRestored}
use Rattle.qs_world_runs.proofs.JoinedMoves.{each_move_joined}
use Rattle.qs_world_runs.proofs.RunsGoOn.{runs_go}

module _ (o : Opening) (world : World) (n stamp inc : ℕ) (may : may_move world (Rise n stamp inc) ≡ true) (j : Joined AlongRun o (moved (Rise n stamp inc) world)) where
  abbrev after : World
  after = moved (Rise n stamp inc) world

  abbrev book : BookValue
  book = book_in o after

  order : is_in_order world n stamp ≡ true
  order = (and_both (is_in_order world n stamp) _ (and_both (not (world.channels.up n)) _ may).1).0

  bounds : (nat_lt n world.size && nat_lt stamp stamp_limit) ≡ true
  bounds = (and_both (nat_lt n world.size && nat_lt stamp stamp_limit) _ order).0

  low : n < world.size
  low = ltb-true n world.size (and_both (nat_lt n world.size) _ bounds).0

  runs : after.channels.up n ≡ true
  runs = picked (n == n) (eqb-self n)
    where
      picked : (b : Bool) → b ≡ true → (if b then true else world.channels.up n) ≡ true
      picked b is = rw is refl

  at : HoldsNodeAt book after n
  at = j.held.nodes n low

  up : HoldsUp n book at.state (after.hosts n)
  up = at.runs runs

  holds : HoldsStill book (after.hosts n).node
  holds = up.still

  same : holds.state ≡ at.state
  same = of_some (sym (subst (λ (k : ℕ). slice_get book.nodes k ≡ Some holds.state) at.node holds.there) ∙ at.there)

  on_disk_is : up.log.state ≡ at.state
  on_disk_is = of_some (sym up.log.there ∙ at.there)

  pub rises_restored : IsRestored o after n
  rises_restored = record {
    lawful = j.lawful;
    runs = runs;
    state = at.state;
    there = at.there;
    servers = subst (λ (state : machine.NodeValue). HoldsServers (is_seen book (after.hosts n).node.setting.node) state (after.hosts n).node.servers) same holds.servers;
    said = up.on_disk;
    logged = subst (λ (state : machine.NodeValue). HoldsLogged n book state (recovery (after.hosts n).log)) on_disk_is up.log.on_disk;
    kept = at.kept;
  }

pub each_log_stands_for : EachLogStandsFor AlongRun
each_log_stands_for o world crash n stamp inc j is may rises = record { stopped = stopped.lawful; restored = rises_restored o (moved crash world) n stamp inc rises (each_move_joined AlongRun runs_go o (moved crash world) (Rise n stamp inc) stopped rises) }
  where
    stopped : Joined AlongRun o (moved crash world)
    stopped = each_move_joined AlongRun runs_go o world crash j may
