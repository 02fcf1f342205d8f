-- Runs with a fault, each group by evaluation.
use Rattle.std.proofs.Common.{◌≡◌, true, refl}
use Rattle.qs_engage.specs.Nodes.{all_nodes}
use Rattle.qs_tm.specs.Members.{all_servers}
use Rattle.std.specs.Global.{Global}
use Rattle.qs_world.specs.DrivenRuns.{late}
use Rattle.qs_world.specs.Faults.{are_well}

pub from_64 : (alloc : Global) → are_well (late alloc) 2 64 8 ≡ true
unfolding all_nodes all_servers
from_64 alloc = refl

pub from_72 : (alloc : Global) → are_well (late alloc) 2 72 8 ≡ true
unfolding all_nodes all_servers
from_72 alloc = refl

pub from_80 : (alloc : Global) → are_well (late alloc) 2 80 8 ≡ true
unfolding all_nodes all_servers
from_80 alloc = refl

pub from_88 : (alloc : Global) → are_well (late alloc) 2 88 8 ≡ true
unfolding all_nodes all_servers
from_88 alloc = refl

pub from_96 : (alloc : Global) → are_well (late alloc) 2 96 8 ≡ true
unfolding all_nodes all_servers
from_96 alloc = refl

pub from_104 : (alloc : Global) → are_well (late alloc) 2 104 8 ≡ true
unfolding all_nodes all_servers
from_104 alloc = refl

pub from_112 : (alloc : Global) → are_well (late alloc) 2 112 8 ≡ true
unfolding all_nodes all_servers
from_112 alloc = refl

pub from_120 : (alloc : Global) → are_well (late alloc) 2 120 8 ≡ true
unfolding all_nodes all_servers
from_120 alloc = refl

pub from_128 : (alloc : Global) → are_well (late alloc) 2 128 8 ≡ true
unfolding all_nodes all_servers
from_128 alloc = refl

pub from_136 : (alloc : Global) → are_well (late alloc) 2 136 8 ≡ true
unfolding all_nodes all_servers
from_136 alloc = refl

pub from_144 : (alloc : Global) → are_well (late alloc) 2 144 8 ≡ true
unfolding all_nodes all_servers
from_144 alloc = refl

pub from_152 : (alloc : Global) → are_well (late alloc) 2 152 8 ≡ true
unfolding all_nodes all_servers
from_152 alloc = refl

pub from_160 : (alloc : Global) → are_well (late alloc) 2 160 8 ≡ true
unfolding all_nodes all_servers
from_160 alloc = refl

pub from_168 : (alloc : Global) → are_well (late alloc) 2 168 8 ≡ true
unfolding all_nodes all_servers
from_168 alloc = refl

pub from_176 : (alloc : Global) → are_well (late alloc) 2 176 8 ≡ true
unfolding all_nodes all_servers
from_176 alloc = refl

pub from_184 : (alloc : Global) → are_well (late alloc) 2 184 8 ≡ true
unfolding all_nodes all_servers
from_184 alloc = refl
