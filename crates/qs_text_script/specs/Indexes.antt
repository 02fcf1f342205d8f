-- What a reader of scripts keeps beside the script: who uses the transaction of each label.
use Rattle.std.specs.Prelude.{ℕ, ◌≡◌, List}
use Rattle.qs_text_script.specs.Rules.{is_begun, is_owner, is_taker}
use Rattle.qs_text_script.specs.Users.{has_client, is_begun_by, users_of}
use Rattle.qs_text_script.specs.declared.gathering.Gathered.{Gathered}

-- the index answers what the commands so far say
pub record IsIndexed (gathered : Gathered) : Type 0 where
  pub begun : (label : List ℕ) → is_begun_by (users_of label gathered.labels.users.entries) ≡ is_begun gathered.script.lines label
  pub owned : (client : ℕ) (label : List ℕ) → has_client client (users_of label gathered.labels.users.entries).owners ≡ is_owner gathered.script.lines client label
  pub taken : (client : ℕ) (label : List ℕ) → has_client client (users_of label gathered.labels.users.entries).takers ≡ is_taker gathered.script.lines client label
