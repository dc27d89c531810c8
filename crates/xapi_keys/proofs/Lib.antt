mod SameKeys
