-- The tests of what an entry of another node finds, each group by evaluation.
use Rattle.qs_world_lawful.proofs.Words.{◌≡◌, true, refl, Global, late, both, rich}
use Rattle.std.specs.Fmt.{digits}
use Rattle.qs_engage.specs.Nodes.{all_nodes}
use Rattle.qs_tm.specs.Members.{all_servers}
use Rattle.qs_world_lawful.specs.TriedAside.{issued_in, some_in, stays_in}

pub early : (alloc : Global) → issued_in (rich alloc) 3 0 100 ≡ true
unfolding all_nodes all_servers digits
early alloc = refl

pub later : (alloc : Global) → issued_in (rich alloc) 3 300 60 ≡ true
unfolding all_nodes all_servers digits
later alloc = refl

pub two : (alloc : Global) → stays_in (both alloc) 1 12 0 120 ≡ true
unfolding all_nodes all_servers digits
two alloc = refl

pub late_join : (alloc : Global) → stays_in (late alloc) 2 20 60 80 ≡ true
unfolding all_nodes all_servers digits
late_join alloc = refl

pub there : (alloc : Global) → some_in (both alloc) 1 0 120 ≡ true
unfolding all_nodes all_servers digits
there alloc = refl
