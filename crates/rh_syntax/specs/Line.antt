-- The line of a request.
use Rattle.rh_layout.specs.declared.command.Command.TheVariants as commands
use Rattle.rh_syntax.specs.declared.line.Line.{Line}
use Rattle.rh_syntax.specs.declared.line.Line.TheVariants.{Alloc, Raw, Load, Store, Copy, Same, Drop, Begin, Shade, Deal, Give, Join, Flip, Recall, Abandon, Idle, Resize, Tickets, Watch, Unwatch, Gone, Trays, Stat, Dump}
use Rattle.rh_syntax.specs.declared.request.Request.{Request}
use Rattle.rh_syntax.specs.declared.request.Request.TheVariants as requests

-- a request as a line, which has one form for each keyword
abbrev pub line_of : Request → Line
line_of (requests.Command owner (commands.Alloc dst fields)) = Alloc owner dst fields
line_of (requests.Command owner (commands.Raw dst fields)) = Raw owner dst fields
line_of (requests.Command owner (commands.Load dst src field)) = Load owner dst src field
line_of (requests.Command owner (commands.Store obj field operand)) = Store owner obj field operand
line_of (requests.Command owner (commands.Copy dst src)) = Copy owner dst src
line_of (requests.Command owner (commands.Same a b)) = Same owner a b
line_of (requests.Command owner (commands.Drop root)) = Drop owner root
line_of requests.Begin = Begin
line_of (requests.Shade root) = Shade root
line_of (requests.Deal kind most tray) = Deal kind most tray
line_of (requests.Give tray) = Give tray
line_of (requests.Join into other) = Join into other
line_of requests.Flip = Flip
line_of requests.Recall = Recall
line_of requests.Abandon = Abandon
line_of (requests.Idle words) = Idle words
line_of (requests.Resize words) = Resize words
line_of (requests.Tickets tickets) = Tickets tickets
line_of (requests.Watch owner root) = Watch owner root
line_of (requests.Unwatch ticket) = Unwatch ticket
line_of requests.Gone = Gone
line_of requests.Trays = Trays
line_of requests.Stat = Stat
line_of requests.Dump = Dump
