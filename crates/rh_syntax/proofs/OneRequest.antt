-- Each line is of one request alone.
use Rattle.std.proofs.Common.{◌≡◌, refl, sym, ap, ◌∙◌}
use Rattle.rh_layout.specs.declared.command.Command.TheVariants as commands
use Rattle.rh_syntax.specs.declared.line.Line.{Line}
use Rattle.rh_syntax.specs.declared.line.Line.TheVariants as lines
use Rattle.rh_syntax.specs.declared.request.Request.{Request}
use Rattle.rh_syntax.specs.declared.request.Request.TheVariants as requests
use Rattle.rh_syntax.specs.Line.{line_of}

-- the request whose line this is
abbrev pub request_of : Line → Request
request_of (lines.Alloc owner dst fields) = requests.Command owner (commands.Alloc dst fields)
request_of (lines.Raw owner dst fields) = requests.Command owner (commands.Raw dst fields)
request_of (lines.Load owner dst src field) = requests.Command owner (commands.Load dst src field)
request_of (lines.Store owner obj field operand) = requests.Command owner (commands.Store obj field operand)
request_of (lines.Copy owner dst src) = requests.Command owner (commands.Copy dst src)
request_of (lines.Same owner a b) = requests.Command owner (commands.Same a b)
request_of (lines.Drop owner root) = requests.Command owner (commands.Drop root)
request_of lines.Begin = requests.Begin
request_of (lines.Shade root) = requests.Shade root
request_of (lines.Deal kind most tray) = requests.Deal kind most tray
request_of (lines.Give tray) = requests.Give tray
request_of (lines.Join into other) = requests.Join into other
request_of lines.Flip = requests.Flip
request_of lines.Recall = requests.Recall
request_of lines.Abandon = requests.Abandon
request_of (lines.Idle words) = requests.Idle words
request_of (lines.Resize words) = requests.Resize words
request_of (lines.Tickets tickets) = requests.Tickets tickets
request_of (lines.Watch owner root) = requests.Watch owner root
request_of (lines.Unwatch ticket) = requests.Unwatch ticket
request_of lines.Gone = requests.Gone
request_of lines.Trays = requests.Trays
request_of lines.Stat = requests.Stat
request_of lines.Dump = requests.Dump

request_of-line_of : (request : Request) → request_of (line_of request) ≡ request
request_of-line_of (requests.Command owner (commands.Alloc dst fields)) = refl
request_of-line_of (requests.Command owner (commands.Raw dst fields)) = refl
request_of-line_of (requests.Command owner (commands.Load dst src field)) = refl
request_of-line_of (requests.Command owner (commands.Store obj field operand)) = refl
request_of-line_of (requests.Command owner (commands.Copy dst src)) = refl
request_of-line_of (requests.Command owner (commands.Same a b)) = refl
request_of-line_of (requests.Command owner (commands.Drop root)) = refl
request_of-line_of requests.Begin = refl
request_of-line_of (requests.Shade root) = refl
request_of-line_of (requests.Deal kind most tray) = refl
request_of-line_of (requests.Give tray) = refl
request_of-line_of (requests.Join into other) = refl
request_of-line_of requests.Flip = refl
request_of-line_of requests.Recall = refl
request_of-line_of requests.Abandon = refl
request_of-line_of (requests.Idle words) = refl
request_of-line_of (requests.Resize words) = refl
request_of-line_of (requests.Tickets tickets) = refl
request_of-line_of (requests.Watch owner root) = refl
request_of-line_of (requests.Unwatch ticket) = refl
request_of-line_of requests.Gone = refl
request_of-line_of requests.Trays = refl
request_of-line_of requests.Stat = refl
request_of-line_of requests.Dump = refl

pub line_of-request_of : (line : Line) → line_of (request_of line) ≡ line
line_of-request_of (lines.Alloc owner dst fields) = refl
line_of-request_of (lines.Raw owner dst fields) = refl
line_of-request_of (lines.Load owner dst src field) = refl
line_of-request_of (lines.Store owner obj field operand) = refl
line_of-request_of (lines.Copy owner dst src) = refl
line_of-request_of (lines.Same owner a b) = refl
line_of-request_of (lines.Drop owner root) = refl
line_of-request_of lines.Begin = refl
line_of-request_of (lines.Shade root) = refl
line_of-request_of (lines.Deal kind most tray) = refl
line_of-request_of (lines.Give tray) = refl
line_of-request_of (lines.Join into other) = refl
line_of-request_of lines.Flip = refl
line_of-request_of lines.Recall = refl
line_of-request_of lines.Abandon = refl
line_of-request_of (lines.Idle words) = refl
line_of-request_of (lines.Resize words) = refl
line_of-request_of (lines.Tickets tickets) = refl
line_of-request_of (lines.Watch owner root) = refl
line_of-request_of (lines.Unwatch ticket) = refl
line_of-request_of lines.Gone = refl
line_of-request_of lines.Trays = refl
line_of-request_of lines.Stat = refl
line_of-request_of lines.Dump = refl

pub same_request : (a b : Request) → line_of a ≡ line_of b → a ≡ b
same_request a b same = sym (request_of-line_of a) ∙ ap request_of same ∙ request_of-line_of b
