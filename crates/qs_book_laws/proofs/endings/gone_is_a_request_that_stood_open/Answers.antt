use Rattle.qs_book_laws.proofs.GoneByEntries.{is_gone_only, is_gone_whenever}
use Rattle.qs_book_laws.proofs.endings.gone_is_a_request_that_stood_open.Goals as goal

pub returns : goal.returns
returns c = record { only = is_gone_only; whenever = is_gone_whenever }
