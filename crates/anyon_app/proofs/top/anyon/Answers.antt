use Rattle.std.proofs.Common.{map, string_bytes, inl, inr, refl}
use Rattle.anyon_app.specs.Replies.{done, refused, limited}
use Rattle.anyon_app.specs.Headline.{command_in, command_work}
use Rattle.anyon_app.proofs.Puts.{put_answered, put_begun, put_complete}
use Rattle.anyon_app.proofs.top.anyon.Goals as goal

pub returns-in-Ok-clause-answered : goal.returns-in-Ok-clause-answered
returns-in-Ok-clause-answered g c = put_answered _ (command_in (map string_bytes c.args.words.now)) (command_work c.in-Some.command) (done c.in-Ok.report.items) c.in-Some.ensures c.in-Ok.ensures.answered _ _ _ _ c.put.result (rw c.deref.ensures.value at c.put.ensures)

pub returns-in-Ok-clause-unwritten_reply : goal.returns-in-Ok-clause-unwritten_reply
returns-in-Ok-clause-unwritten_reply g c = put_begun _ (command_in (map string_bytes c.args.words.now)) (command_work c.in-Some.command) (done c.in-Ok.report.items) c.in-Some.ensures c.in-Ok.ensures.answered _ _ _ _ c.put.result (rw c.deref.ensures.value at c.put.ensures) (inl refl)

pub returns-in-Err-RefusalLine-clause-answered : goal.returns-in-Err-RefusalLine-clause-answered
returns-in-Err-RefusalLine-clause-answered g c = put_answered _ (command_in (map string_bytes c.args.words.now)) (command_work c.in-Some.command) (refused c.in-Err-RefusalLine.line.items) c.in-Some.ensures (rw c.in-Err-RefusalLine.field-0-is at c.in-Err-RefusalLine.ensures.answered) _ _ _ _ c.put-in-Err-RefusalLine.result (rw c.deref-in-Err-RefusalLine.ensures.value at c.put-in-Err-RefusalLine.ensures)

pub returns-in-Err-RefusalLine-clause-unwritten_reply : goal.returns-in-Err-RefusalLine-clause-unwritten_reply
returns-in-Err-RefusalLine-clause-unwritten_reply g c = put_begun _ (command_in (map string_bytes c.args.words.now)) (command_work c.in-Some.command) (refused c.in-Err-RefusalLine.line.items) c.in-Some.ensures (rw c.in-Err-RefusalLine.field-0-is at c.in-Err-RefusalLine.ensures.answered) _ _ _ _ c.put-in-Err-RefusalLine.result (rw c.deref-in-Err-RefusalLine.ensures.value at c.put-in-Err-RefusalLine.ensures) (inr (inl refl))

pub returns-in-Err-LimitLine-clause-answered : goal.returns-in-Err-LimitLine-clause-answered
returns-in-Err-LimitLine-clause-answered g c = put_answered _ (command_in (map string_bytes c.args.words.now)) (command_work c.in-Some.command) (limited c.in-Err-LimitLine.line.items) c.in-Some.ensures (rw c.in-Err-LimitLine.field-0-is at c.in-Err-LimitLine.ensures.answered) _ _ _ _ c.put-in-Err-LimitLine.result (rw c.deref-in-Err-LimitLine.ensures.value at c.put-in-Err-LimitLine.ensures)

pub returns-in-Err-LimitLine-clause-unwritten_reply : goal.returns-in-Err-LimitLine-clause-unwritten_reply
returns-in-Err-LimitLine-clause-unwritten_reply g c = put_begun _ (command_in (map string_bytes c.args.words.now)) (command_work c.in-Some.command) (limited c.in-Err-LimitLine.line.items) c.in-Some.ensures (rw c.in-Err-LimitLine.field-0-is at c.in-Err-LimitLine.ensures.answered) _ _ _ _ c.put-in-Err-LimitLine.result (rw c.deref-in-Err-LimitLine.ensures.value at c.put-in-Err-LimitLine.ensures) (inr (inr (inr refl)))

pub returns-in-Ok-clause-complete : goal.returns-in-Ok-clause-complete
returns-in-Ok-clause-complete g c known told = put_complete _ (command_in (map string_bytes c.args.words.now)) (command_work c.in-Some.command) (done c.in-Ok.report.items) c.in-Some.ensures c.in-Ok.ensures.answered _ _ _ _ c.put.result (rw c.deref.ensures.value at c.put.ensures) known told _ _

pub returns-in-Err-RefusalLine-clause-complete : goal.returns-in-Err-RefusalLine-clause-complete
returns-in-Err-RefusalLine-clause-complete g c known told = put_complete _ (command_in (map string_bytes c.args.words.now)) (command_work c.in-Some.command) (refused c.in-Err-RefusalLine.line.items) c.in-Some.ensures (rw c.in-Err-RefusalLine.field-0-is at c.in-Err-RefusalLine.ensures.answered) _ _ _ _ c.put-in-Err-RefusalLine.result (rw c.deref-in-Err-RefusalLine.ensures.value at c.put-in-Err-RefusalLine.ensures) known told _ _

pub returns-in-Err-LimitLine-clause-complete : goal.returns-in-Err-LimitLine-clause-complete
returns-in-Err-LimitLine-clause-complete g c known told = put_complete _ (command_in (map string_bytes c.args.words.now)) (command_work c.in-Some.command) (limited c.in-Err-LimitLine.line.items) c.in-Some.ensures (rw c.in-Err-LimitLine.field-0-is at c.in-Err-LimitLine.ensures.answered) _ _ _ _ c.put-in-Err-LimitLine.result (rw c.deref-in-Err-LimitLine.ensures.value at c.put-in-Err-LimitLine.ensures) known told _ _
