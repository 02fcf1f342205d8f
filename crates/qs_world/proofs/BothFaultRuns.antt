-- Runs with a fault, each group by evaluation.
use Rattle.std.proofs.Common.{◌≡◌, true, refl}
use Rattle.qs_engage.specs.Nodes.{all_nodes}
use Rattle.qs_tm.specs.Members.{all_servers}
use Rattle.std.specs.Global.{Global}
use Rattle.qs_world.specs.Faults.{both, are_well}

pub from_0 : (alloc : Global) → are_well (both alloc) 1 0 10 ≡ true
unfolding all_nodes all_servers
from_0 alloc = refl

pub from_10 : (alloc : Global) → are_well (both alloc) 1 10 10 ≡ true
unfolding all_nodes all_servers
from_10 alloc = refl

pub from_20 : (alloc : Global) → are_well (both alloc) 1 20 10 ≡ true
unfolding all_nodes all_servers
from_20 alloc = refl

pub from_30 : (alloc : Global) → are_well (both alloc) 1 30 10 ≡ true
unfolding all_nodes all_servers
from_30 alloc = refl

pub from_40 : (alloc : Global) → are_well (both alloc) 1 40 10 ≡ true
unfolding all_nodes all_servers
from_40 alloc = refl

pub from_50 : (alloc : Global) → are_well (both alloc) 1 50 10 ≡ true
unfolding all_nodes all_servers
from_50 alloc = refl

pub from_60 : (alloc : Global) → are_well (both alloc) 1 60 10 ≡ true
unfolding all_nodes all_servers
from_60 alloc = refl

pub from_70 : (alloc : Global) → are_well (both alloc) 1 70 10 ≡ true
unfolding all_nodes all_servers
from_70 alloc = refl

pub from_80 : (alloc : Global) → are_well (both alloc) 1 80 10 ≡ true
unfolding all_nodes all_servers
from_80 alloc = refl
