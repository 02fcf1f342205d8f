-- The tests of a world over old logs, each group by evaluation.
use Rattle.qs_world_lawful.proofs.Words.{◌≡◌, true, false, refl, Global, IsOpening, start}
use Rattle.std.specs.Fmt.{digits}
use Rattle.qs_engage.specs.Nodes.{all_nodes}
use Rattle.qs_tm.specs.Members.{all_servers}
use Rattle.qs_world_lawful.specs.TriedOpenings.{old}
use Rattle.qs_world_lawful.specs.TriedWorlds.{all_ok, downs_ok, worlds_ok}

pub opens : (alloc : Global) → IsOpening (old alloc)
opens alloc = record { size = refl; settings = refl; scripts = refl; labels = refl; logs = refl; votes = refl; unended = refl; whole = refl }

pub first : (alloc : Global) → all_ok (old alloc) (start (old alloc)) ≡ true
unfolding all_nodes all_servers digits
first alloc = refl

pub on : (alloc : Global) → worlds_ok (old alloc) 1 0 60 ≡ true
unfolding all_nodes all_servers digits
on alloc = refl

pub kept : (alloc : Global) → downs_ok (old alloc) 1 true 5 0 40 ≡ true
unfolding all_nodes all_servers digits
kept alloc = refl

pub lost : (alloc : Global) → downs_ok (old alloc) 1 false 5 0 40 ≡ true
unfolding all_nodes all_servers digits
lost alloc = refl
