-- The standard routines by their numbers: what a predeclared name means, what a call's node says, and what the rules and the
-- meaning tell the routines by.
use Rattle.std.specs.Prelude.{ℕ}

abbrev pub abs : ℕ
abs = 0

abbrev pub sqr : ℕ
sqr = 1

abbrev pub odd : ℕ
odd = 2

abbrev pub ord : ℕ
ord = 3

abbrev pub chr : ℕ
chr = 4

abbrev pub succ : ℕ
succ = 5

abbrev pub pred : ℕ
pred = 6

abbrev pub inc : ℕ
inc = 7

abbrev pub dec : ℕ
dec = 8

abbrev pub hi : ℕ
hi = 9

abbrev pub lo : ℕ
lo = 10

abbrev pub swap : ℕ
swap = 11

abbrev pub size_of : ℕ
size_of = 12

abbrev pub up_case : ℕ
up_case = 13

abbrev pub length : ℕ
length = 14

abbrev pub copy : ℕ
copy = 15

abbrev pub delete : ℕ
delete = 16

abbrev pub insert : ℕ
insert = 17

abbrev pub concat : ℕ
concat = 18

abbrev pub pos : ℕ
pos = 19

abbrev pub str : ℕ
str = 20

abbrev pub val : ℕ
val = 21

abbrev pub write : ℕ
write = 22

abbrev pub write_ln : ℕ
write_ln = 23

abbrev pub read : ℕ
read = 24

abbrev pub read_ln : ℕ
read_ln = 25

abbrev pub eof : ℕ
eof = 26

abbrev pub eoln : ℕ
eoln = 27

abbrev pub new : ℕ
new = 28

abbrev pub dispose : ℕ
dispose = 29

abbrev pub halt : ℕ
halt = 30

abbrev pub exit : ℕ
exit = 31
