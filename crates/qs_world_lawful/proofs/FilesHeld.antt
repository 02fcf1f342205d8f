-- That files of a node are files is part of what is held.
use Rattle.qs_world_lawful.proofs.Words.{ℕ, BookValue, Work, HoldsWork, HoldsFiles}

pub files_held : (stamp : ℕ) (before : BookValue) (work : Work) → HoldsWork stamp before work → HoldsFiles work.node.servers
files_held stamp before work h = record { quota = h.holds.servers.kinds.quota; kind = h.holds.servers.kinds.files; rising = h.holds.servers.files.rising }
