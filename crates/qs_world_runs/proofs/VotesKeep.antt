-- A server that votes so that it can commit is one whose changes a log keeps, has some pending, and keeps them.
use Rattle.qs_world_runs.proofs.Words.{◌≡◌, ℕ, ◌==◌, not, Bool, true, false, List, [], ◌∷◌, length, Option, Some, None, refl, ap, ◌∙◌, if◌then◌else◌, ServerNo, Tid, is_empty, ServerValue, after_vote, changes_in, is_logged, vote_of, voted_by, share_of, Op, ServerKind, ServersValue, server_at, with_server}
use Rattle.qs_ops.specs.Server.{changes_vote, names_vote}
use Rattle.qs_ops.specs.Servers as numbers
use Rattle.qs_ops.specs.Table.{has_changes, least_taken}
use Rattle.qs_ops.specs.declared.server.ServerKind.TheVariants as kinds
use Rattle.qs_ops.specs.declared.vote.Vote.TheVariants as votes

-- the server of a number, as its tests choose it, and what changes it
abbrev chosen : (a b c d e g : Bool) → ServersValue → ServerValue
chosen a b c d e g v = if a then v.files else if b then v.audit else if c then v.names else if d then v.timers else if e then v.windows else if g then v.scratch else v.extra

abbrev changed : (a b c d e g : Bool) → (ServerValue → ServerValue) → ServersValue → ServersValue
changed a b c d e g f v =
    if a then record v { files = f v.files }
    else if b then record v { audit = f v.audit }
    else if c then record v { names = f v.names }
    else if d then record v { timers = f v.timers }
    else if e then record v { windows = f v.windows }
    else if g then record v { scratch = f v.scratch }
    else record v { extra = f v.extra }

chosen_now : (a b c d e g : Bool) (f : ServerValue → ServerValue) (v : ServersValue) → chosen a b c d e g (changed a b c d e g f v) ≡ f (chosen a b c d e g v)
chosen_now true b c d e g f v = refl
chosen_now false true c d e g f v = refl
chosen_now false false true d e g f v = refl
chosen_now false false false true e g f v = refl
chosen_now false false false false true g f v = refl
chosen_now false false false false false true f v = refl
chosen_now false false false false false false f v = refl

pub changed_server : (server : ServerNo) (f : ServerValue → ServerValue) (values : ServersValue) → server_at (with_server server f values) server ≡ f (server_at values server)
changed_server server f values = chosen_now (server.0 == numbers.files_no) (server.0 == numbers.audit_no) (server.0 == numbers.names_no) (server.0 == numbers.timers_no) (server.0 == numbers.windows_no) (server.0 == numbers.scratch_no) f values

voted_keeps : (kind : ServerKind) (tid : Tid) (server : ServerValue) → changes_in (voted_by kind tid votes.Recoverable server) tid ≡ changes_in server tid
voted_keeps kinds.Nothing tid server = refl
voted_keeps (kinds.Files quota) tid server = refl
voted_keeps kinds.Audit tid server = refl
voted_keeps kinds.Names tid server = refl
voted_keeps kinds.Timers tid server = refl
voted_keeps kinds.Windows tid server = refl
voted_keeps kinds.Scratch tid server = refl

pub vote_keeps_changes : (server : ServerNo) (tid : Tid) (values : ServersValue) → changes_in (server_at (with_server server (λ value. after_vote value tid votes.Recoverable) values) server) tid ≡ changes_in (server_at values server) tid
vote_keeps_changes server tid values = ap (λ (value : ServerValue). changes_in value tid) (changed_server server (λ value. after_vote value tid votes.Recoverable) values) ∙ voted_keeps (server_at values server).kind tid (server_at values server)

pub vote_has_changes : (server : ServerValue) (tid : Tid) (free frame : ℕ) → vote_of server tid free frame ≡ votes.Recoverable → is_empty (changes_in server tid) ≡ false
vote_has_changes server tid free frame is = by (has_changes server.table tid) refl is
  where
    some : (xs : List Op) → not (length xs == 0) ≡ true → is_empty xs ≡ false
    some [] e = absurd (cc e)
    some (x ∷ xs) e = refl

    by : (b : Bool) → has_changes server.table tid ≡ b → (if b then changes_vote server.kind server.table tid free frame else votes.ReadOnly) ≡ votes.Recoverable → is_empty (changes_in server tid) ≡ false
    by true has e = some (share_of server.table tid).changes has
    by false none e = absurd (cc e)

pub vote_is_logged : (server : ServerValue) (tid : Tid) (free frame : ℕ) → vote_of server tid free frame ≡ votes.Recoverable → is_logged server.kind ≡ true
vote_is_logged server tid free frame is = by (has_changes server.table tid) is
  where
    named : (o : Option (List ℕ)) → names_vote o ≡ votes.Recoverable → ⊥
    named None e = cc e
    named (Some name) e = cc e

    of : (kind : ServerKind) → changes_vote kind server.table tid free frame ≡ votes.Recoverable → is_logged kind ≡ true
    of (kinds.Files quota) e = refl
    of kinds.Audit e = refl
    of kinds.Names e = absurd (named (least_taken server.table tid) e)
    of kinds.Timers e = absurd (cc e)
    of kinds.Windows e = absurd (cc e)
    of kinds.Scratch e = absurd (cc e)
    of kinds.Nothing e = absurd (cc e)

    by : (b : Bool) → (if b then changes_vote server.kind server.table tid free frame else votes.ReadOnly) ≡ votes.Recoverable → is_logged server.kind ≡ true
    by true e = of server.kind e
    by false e = absurd (cc e)
