-- Servers that take in what a log keeps of their contents.
use Rattle.qs_restart.specs.declared.recovered.Recovered.{Recovered}
use Rattle.qs_node_servers.specs.Kinds.{taken_in}
use Rattle.qs_node_servers.specs.Servers.{ServersValue}

-- files and audit, which have and hold nothing, take in their committed changes
abbrev pub with_contents : Recovered → ServersValue → ServersValue
with_contents found servers = record servers { files = taken_in found.files servers.files; audit = taken_in found.audit servers.audit }
