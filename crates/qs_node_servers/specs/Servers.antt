-- The servers of a node, by number.
use Rattle.std.specs.Prelude.{◌-◌, ◌==◌, Bool, if◌then◌else◌}
use Rattle.qs_base.specs.declared.identifiers.ClientNo.{ClientNo}
use Rattle.qs_base.specs.declared.identifiers.ServerNo.{ServerNo}
use Rattle.qs_ops.specs.Server.{ServerValue}
use Rattle.qs_ops.specs.Servers as servers

pub record ServersValue : Type 0 where
  pub files : ServerValue
  pub audit : ServerValue
  pub names : ServerValue
  pub timers : ServerValue
  pub windows : ServerValue
  pub scratch : ServerValue
  pub extra : ServerValue

abbrev pub server_at : ServersValue → ServerNo → ServerValue
server_at values server =
    if server.0 == servers.files_no then values.files
    else if server.0 == servers.audit_no then values.audit
    else if server.0 == servers.names_no then values.names
    else if server.0 == servers.timers_no then values.timers
    else if server.0 == servers.windows_no then values.windows
    else if server.0 == servers.scratch_no then values.scratch
    else values.extra

-- the server of that number is changed
abbrev pub with_server : ServerNo → (ServerValue → ServerValue) → ServersValue → ServersValue
with_server server f values =
    if server.0 == servers.files_no then record values { files = f values.files }
    else if server.0 == servers.audit_no then record values { audit = f values.audit }
    else if server.0 == servers.names_no then record values { names = f values.names }
    else if server.0 == servers.timers_no then record values { timers = f values.timers }
    else if server.0 == servers.windows_no then record values { windows = f values.windows }
    else if server.0 == servers.scratch_no then record values { scratch = f values.scratch }
    else record values { extra = f values.extra }

abbrev pub audit_no : ServerNo
audit_no = record { 0 = servers.audit_no }

abbrev pub timers_no : ServerNo
timers_no = record { 0 = servers.timers_no }

-- ---- a client as a member, and as one who issues

abbrev pub client_server : ClientNo → ServerNo
client_server client = record { 0 = servers.client_no client.0 }

abbrev pub is_client : ServerNo → Bool
is_client server = servers.is_client_no server.0

abbrev pub client_of : ServerNo → ClientNo
client_of server = record { 0 = server.0 - servers.client_no 0 }
