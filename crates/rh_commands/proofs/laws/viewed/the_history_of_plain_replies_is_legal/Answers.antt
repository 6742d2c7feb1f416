use Rattle.rh_commands.proofs.LegalReplies.{legal_replies}
use Rattle.rh_commands.proofs.laws.viewed.the_history_of_plain_replies_is_legal.Goals as goal

pub returns : goal.returns
returns c = legal_replies c.the_history_of_plain_answers_is_legal.ensures
