-- Each way out is a case of the definition.
use Rattle.inspect.specs.FirstBytes.{kind_of}
use Rattle.inspect.proofs.input.found.Goals as goal

pub returns-then-is_login : goal.returns-then-is_login
unfolding kind_of
returns-then-is_login c = simp (← c.is_login.ensures, c.if-is_login.true)

pub returns-then-is_command : goal.returns-then-is_command
unfolding kind_of
returns-then-is_command c = simp (← c.is_login.ensures, c.if-is_login.false, ← c.is_tcp.ensures, c.if-is_tcp.true, ← c.is_command.ensures, c.if-is_command.true)

pub returns-then-is_tcp : goal.returns-then-is_tcp
unfolding kind_of
returns-then-is_tcp c = simp (← c.is_login.ensures, c.if-is_login.false, ← c.is_tcp.ensures, c.if-is_tcp.true, ← c.is_command.ensures, c.if-is_command.false)

pub returns-then-is_form : goal.returns-then-is_form
unfolding kind_of
returns-then-is_form c = simp (← c.is_login.ensures, c.if-is_login.false, ← c.is_tcp.ensures, c.if-is_tcp.false, ← c.is_form.ensures, c.if-is_form.true)

pub returns-then-is_connection : goal.returns-then-is_connection
unfolding kind_of
returns-then-is_connection c = simp (← c.is_login.ensures, c.if-is_login.false, ← c.is_tcp.ensures, c.if-is_tcp.false, ← c.is_form.ensures, c.if-is_form.false, ← c.is_connection.ensures, c.if-is_connection.true)

pub returns : goal.returns
unfolding kind_of
returns c = simp (← c.is_login.ensures, c.if-is_login.false, ← c.is_tcp.ensures, c.if-is_tcp.false, ← c.is_form.ensures, c.if-is_form.false, ← c.is_connection.ensures, c.if-is_connection.false)
