use Rattle.rh_syntax.proofs.OneRequest.{request_of, same_request, line_of-request_of}
use Rattle.rh_syntax.proofs.laws.each_line_is_of_one_request.Goals as goal

pub returns-clause-alone : goal.returns-clause-alone
returns-clause-alone c = same_request

pub returns-clause-all : goal.returns-clause-all
returns-clause-all c = λ line. (request_of line, line_of-request_of line)
