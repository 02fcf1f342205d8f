-- Which server the further one is stays, where changes of a Prepare are pending again.
use Rattle.std.proofs.Common.{◌≡◌, refl, ◌==◌, Bool, true, false, List}
use Rattle.std.specs.Prelude.{if◌then◌else◌}
use Rattle.qs_base.specs.declared.identifiers.ServerNo.{ServerNo}
use Rattle.qs_base.specs.declared.identifiers.Tid.{Tid}
use Rattle.qs_ops.specs.Server.{ServerValue, after_keeping, is_logged}
use Rattle.qs_ops.specs.Servers.{files_no, audit_no, names_no, timers_no, windows_no, scratch_no}
use Rattle.qs_ops.specs.declared.operation.Op.{Op}
use Rattle.qs_node_servers.specs.Servers.{ServersValue, with_server}

in_both : {A : Type 0} (P : A → Type 0) (b : Bool) (x y : A) → P x → P y → P (if b then x else y)
in_both P true x y px py = px
in_both P false x y px py = py

keeping_stays : (value : ServerValue) (tid : Tid) (changes : List Op) → (after_keeping value tid changes).kind ≡ value.kind
keeping_stays value tid changes = in_both (λ (after : ServerValue). after.kind ≡ value.kind) (is_logged value.kind) _ _ refl refl

-- the further server is the same
abbrev Same : ServersValue → ServersValue → Type 0
Same values after = after.extra.kind ≡ values.extra.kind

pub kind_stays : (server : ServerNo) (tid : Tid) (changes : List Op) (values : ServersValue)
    → (with_server server (λ value. after_keeping value tid changes) values).extra.kind ≡ values.extra.kind
kind_stays server tid changes values =
    in_both (Same values) (server.0 == files_no) _ _ refl
    (in_both (Same values) (server.0 == audit_no) _ _ refl
    (in_both (Same values) (server.0 == names_no) _ _ refl
    (in_both (Same values) (server.0 == timers_no) _ _ refl
    (in_both (Same values) (server.0 == windows_no) _ _ refl
    (in_both (Same values) (server.0 == scratch_no) _ _ refl
    (keeping_stays values.extra tid changes))))))
