use Rattle.std.proofs.Common.{rules}
use Rattle.rheap_c.proofs.fixed.resizing.resize_status.Goals as goal

pub returns-in-Err-Used : goal.returns-in-Err-Used
returns-in-Err-Used c = search rules
