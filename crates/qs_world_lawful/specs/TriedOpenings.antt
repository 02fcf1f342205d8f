-- What is held of whole worlds, tried on a world that begins over old logs: a commit that is still to be told, and the vote in doubt that waits
-- for it; a vote of what its home did not commit; one of a home that is not in the run; and a commit that is ended.
use Rattle.std.specs.Prelude.{◌≡◌, ℕ, ◌==◌, true, false, List, [], ◌∷◌, codes, if◌then◌else◌}
use Rattle.std.specs.Global.{Global}
use Rattle.qs_base.specs.declared.identifiers.Tid.{Tid}
use Rattle.qs_ops.specs.declared.operation.Op.TheVariants.{Note, Put}
use Rattle.qs_record.specs.declared.record.Record.{Record}
use Rattle.qs_record.specs.declared.record.Record.TheVariants as records
use Rattle.qs_node_step.specs.declared.setting.Setting.{Setting}
use Rattle.qs_world.specs.Faults.{both_lines}
use Rattle.qs_world.specs.Openings.{IsOpening}
use Rattle.qs_world.specs.Scenes.{setting_of}
use Rattle.qs_world.specs.World.{Opening, start}
use Rattle.qs_world_lawful.specs.TriedWorlds.{all_ok, downs_ok, worlds_ok}

abbrev tid_of : ℕ → ℕ → Tid
tid_of home seq = record { home = record { 0 = home }; inc = 1; seq = seq }

abbrev put : Tid → List ℕ → List ℕ → Record
put tid name text = records.Prepare tid (record { 0 = 0 }) 1 (Put name text ∷ [])

abbrev note : Tid → List ℕ → Record
note tid text = records.Prepare tid (record { 0 = 1 }) 1 (Note text ∷ [])

abbrev old_log : ℕ → List Record
old_log n =
    if n == 0
    then put (tid_of 0 1) (codes "f") (codes "x")
    ∷ note (tid_of 0 2) (codes "ended") ∷ put (tid_of 0 2) (codes "e") (codes "1") ∷ records.Commit (tid_of 0 2) []
    ∷ records.Commit (tid_of 0 1) (record { 0 = 1 } ∷ [])
    ∷ put (tid_of 0 3) (codes "h") (codes "z")
    ∷ put (tid_of 1 1) (codes "k") (codes "w") ∷ []
    else put (tid_of 0 1) (codes "g") (codes "y")
    ∷ note (tid_of 0 1) (codes "said")
    ∷ put (tid_of 0 3) (codes "d") (codes "v")
    ∷ put (tid_of 5 1) (codes "o") (codes "p")
    ∷ put (tid_of 1 2) (codes "c") (codes "q") ∷ records.Commit (tid_of 1 2) [] ∷ []

abbrev second : ℕ → Setting
second n = record (setting_of 2 n) { inc = 2 }

abbrev pub old : Global → Opening
old alloc = record { alloc = alloc; size = 2; settings = second; logs = old_log; clients = both_lines }

pub record TriedOpenings (alloc : Global) : Type 0 where
  pub opens : IsOpening (old alloc)
  pub first : all_ok (old alloc) (start (old alloc)) ≡ true
  pub on : worlds_ok (old alloc) 1 0 60 ≡ true
  pub kept : downs_ok (old alloc) 1 true 5 0 40 ≡ true
  pub lost : downs_ok (old alloc) 1 false 5 0 40 ≡ true
